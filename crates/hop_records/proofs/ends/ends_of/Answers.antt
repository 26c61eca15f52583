use Rattle.std.proofs.Common.{◌≡◌, ◌++◌, ◌∷◌, [], length, Some, not, ap, ◌∙◌, arith}
use Rattle.hop_records.proofs.EndsLemmas.{Reached-push, Reached-long}
use Rattle.hop_records.proofs.ends.ends_of.Goals as goal

pub returns-then-end-start-gt-MAX_RECORD-clause-long : goal.returns-then-end-start-gt-MAX_RECORD-clause-long
returns-then-end-start-gt-MAX_RECORD-clause-long c =
    let here = Reached-long c.args.bytes.now c.loop-start.ends.items c.loop-start.start c.next_end-end.result.0 c.next_end-end.result.1 c.loop-start.invariant c.next_end-end.ensures.inside c.next_end-end.ensures.first c.if-end-start-gt-MAX_RECORD.true in
    λ index is.
    let same : c.len.result ≡ index = cc in
    let count : length c.loop-start.ends.items ≡ index = omega (arith, same, c.len.ensures, c.loop-start.ends.ok) in
    here ∙ ap Some count

pub loop-start-preserved : goal.loop-start-preserved
loop-start-preserved c =
    let e = c.next_end-end.ensures in
    let items : c.push.new.self.items ≡ c.loop-start.ends.items ++ c.next_end-end.result.0 ∷ [] = rw (c.is_err.ensures.negation ∙ ap not c.if-is_err.false) at c.push.ensures.items in
    rw items (Reached-push c.args.bytes.now c.loop-start.ends.items c.loop-start.start c.next_end-end.result.0 c.next_end-end.result.1 c.loop-start.invariant c.loop-start-test.true e.forward e.within e.ordered e.inside e.next e.first c.if-end-start-gt-MAX_RECORD.false)
