use Rattle.std.proofs.Common.{◌≡◌, [], ◌∷◌, ◌++◌, not, ap, ◌∙◌}
use Rattle.hop_script.proofs.TurnsReading.{IsReading-next, IsReading-bad}
use Rattle.hop_script.proofs.turns.Turns.of_text.Goals as goal

pub returns-in_default-clause-cause : goal.returns-in_default-clause-cause
returns-in_default-clause-cause c =
    let before = c.loop-rest in
    IsReading-bad c.args.actors c.args.bytes.now before.rest.now before.number before.total before.turns.items before.invariant c.in_default.ensures

pub loop-rest-preserved : goal.loop-rest-preserved
loop-rest-preserved c =
    let before = c.loop-rest in
    let items : c.push.new.self.items ≡ before.turns.items ++ c.in-Some.turn ∷ [] = rw (c.is_err.ensures.negation ∙ ap not c.if-is_err.false) at c.push.ensures.items in
    rw items (IsReading-next c.args.actors c.args.bytes.now before.rest.now c.in-Some.after.now before.number before.total before.turns.items c.in-Some.turn before.invariant c.in-Some.ensures)
