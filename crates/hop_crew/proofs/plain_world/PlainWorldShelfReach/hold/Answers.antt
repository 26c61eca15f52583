use Rattle.std.proofs.Common.{◌≡◌, ◌∙◌, Some, sym, ap, subst, true}
use Rattle.std.specs.Option.{option_map}
use Rattle.hop_inner.specs.Setups.{setup_of}
use Rattle.hop_machine.specs.step.Steps.{holding, TellsValue}
use Rattle.hop_inner.specs.Locks.{Lock, with_kept}
use Rattle.hop_crew.specs.PlainWorlds.{deeds_of, keep_of, kept_at}
use Rattle.hop_crew.specs.PlainWorldSteps.{keep_puts}
use Rattle.hop_crew.proofs.Meetings.{keep_there, keep_number}
use Rattle.hop_inner.proofs.LockSteps.{steps_hold}
use Rattle.hop_crew.proofs.plain_world.PlainWorldShelfReach.hold.Goals as goal

pub returns-clause-step : goal.returns-clause-step
returns-clause-step g c =
    let n = g.N.RunName in let setup = setup_of n.records n.script n.settings in let s = c.args.self.now in let p = c.args.p in
    let k : Lock = c.index_mut.result.now in let x : Lock = c.try_hold.new.self in let v = c.in-Some.value in let value = Rattle.hop_inner.specs.Shelved.value_of in
    let is : keep_of s p ≡ Some k = keep_there s.keeps.items p p c.requires.end _ k c.index_mut.ensures.value in
    let now : x ≡ record k { kept = record k.kept { held = true } } = c.try_hold.ensures.lock ∙ (λ i. record k { kept = holding (option_map value (c.in-Some.is i)) k.kept }) in
    let kept : k.kept ≡ (deeds_of setup s).did.keeps p = ap kept_at (sym is) in
    steps_hold true p (deeds_of setup s) (value v) (subst (TellsValue (value v)) kept c.in-Some.ensures.value) _
    (keep_puts setup s p k x is (ap (λ (l : Lock). l.number) now)
    ∙ (λ i. with_kept p (now i).kept (deeds_of setup s)) ∙ (λ i. with_kept p (record (kept i) { held = true }) (deeds_of setup s)))

pub returns-clause-number : goal.returns-clause-number
returns-clause-number g c =
    let s = c.args.self.now in let p = c.args.p in let k : Lock = c.index_mut.result.now in
    let is : keep_of s p ≡ Some k = keep_there s.keeps.items p p c.requires.end _ k c.index_mut.ensures.value in
    c.in-Some.ensures.number ∙ keep_number p (keep_of s p) k is c.requires.end
