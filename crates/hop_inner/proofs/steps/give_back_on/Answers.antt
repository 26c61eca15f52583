use Rattle.std.proofs.Common.{◌≡◌, false, ap, ◌∙◌}
use Rattle.hop_machine.specs.step.Steps.{Kept}
use Rattle.hop_inner.specs.Locks.{Lock, with_kept}
use Rattle.hop_inner.proofs.LockSteps.{steps_give}
use Rattle.hop_inner.proofs.steps.give_back_on.Goals as goal

pub returns : goal.returns
returns g c =
    let x = g.E.Keep.Keep.lock c.keep.result.now in let y = g.E.Keep.Keep.lock c.give_back.new.self in let a = g.E.Reach.deeds c.args.reach.now in let p = c.args.p in
    let due = c.args.value.journal.due in
    let kept : y.kept ≡ record (a.did.keeps p) { due = due; held = false } = ap (λ (l : Lock). l.kept) c.give_back.ensures ∙ (λ i. record (c.keep.ensures.shows i) { events = c.requires.same i; due = due; held = false }) in
    steps_give g.E.Reach.exact p a due _ (g.met.E.Reach.keep_put c.args.reach.now p c.keep.result.now c.give_back.new.self c.keep.ensures.end (ap (λ (l : Lock). l.number) c.give_back.ensures) ∙ (λ i. with_kept p (kept i) a))
