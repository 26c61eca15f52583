use Rattle.std.proofs.Common.{◌≡◌, [], length, take, sym}
use Rattle.std.proofs.lemmas.Bool.{eqb-true}
use Rattle.std.proofs.lemmas.List.{nil_from_length}
use Rattle.hop_script.specs.Script.{said_by, given}
use Rattle.hop_script.proofs.ScriptReading.{IsReading-next, IsReading-done, IsReading-draft}
use Rattle.hop_script.proofs.script.Script.read.Goals as goal

pub loop-rest-preserved : goal.loop-rest-preserved
loop-rest-preserved c =
    let text = c.args.bytes.now in
    let before = c.loop-rest in
    let begins = rw c.in-Ok-Some.field-0-is at (c.in-Ok-Some.ensures (given (take before.number (said_by text))) before.invariant.draft) in
    IsReading-next text before.rest.now c.in-Ok-Some.after.now before.number before.draft c.read_line.new.draft before.invariant begins

pub returns-in-Ok-clause-value : goal.returns-in-Ok-clause-value
returns-in-Ok-clause-value c =
    let text = c.args.bytes.now in
    let before = c.loop-rest in
    let done : before.rest.now ≡ [] = nil_from_length before.rest.now (eqb-true (length before.rest.now) 0 (sym c.loop-rest-test.ensures)) in
    c.in-Ok.ensures (given (said_by text)) (IsReading-draft text before.rest.now before.number before.draft before.invariant done)

pub returns-in-Ok-clause-accepted : goal.returns-in-Ok-clause-accepted
returns-in-Ok-clause-accepted c =
    let text = c.args.bytes.now in
    let before = c.loop-rest in
    let done : before.rest.now ≡ [] = nil_from_length before.rest.now (eqb-true (length before.rest.now) 0 (sym c.loop-rest-test.ensures)) in
    IsReading-done text before.rest.now before.number before.draft before.invariant done
