use Rattle.std.proofs.Common.{◌≡◌, length, ◌+◌, ◌++◌, ◌∷◌, [], sym, ap, ◌∙◌, subst, map, All, append_assoc}
use Rattle.std.proofs.lemmas.List.{map-append}
use Rattle.std.proofs.lemmas.List.Elements.{All-push}
use Rattle.hop_inner.specs.Setups.{setup_of}
use Rattle.hop_inner.specs.Locks.{Lock}
use Rattle.hop_machine.specs.step.Steps.{Value}
use Rattle.hop_crew.specs.Unused.{first_kept, first_value}
use Rattle.hop_crew.proofs.Filling.{long, All-middle}
use Rattle.hop_crew.proofs.making.locks.Goals as goal

pub loop-value-preserved : goal.loop-value-preserved
loop-value-preserved g c =
    let n = g.N.RunName in let setup = setup_of n.records n.script n.settings in let number = g.V.Logged.number in
    let xs = c.loop-value.keeps.items in let k : Lock = c.in_ok-keep.keep in let e = c.in_ok-keep.ensures in let was = c.loop-value.invariant in
    let items = c.in_ok-push.ensures.items in let v = c.in-Some.value in let ys = c.loop-value.yielded in
    let next = c.in-Some.ensures.steps in let all = sym was.all ∙ ap (λ l. ys ++ l) next.0 in
    let first = All-middle (λ v. g.V.Logged.value v ≡ first_value setup) ys v c.next.new.self.rest.items (subst (All (λ v. g.V.Logged.value v ≡ first_value setup)) all c.requires.first.values_are) in
    let kept : k.kept ≡ first_kept setup = λ i. record { events = e.events i; due = (e.due ∙ ap (λ (v : Value). v.due) first) i; held = e.free i; busy = e.busy i } in
    record {
      all = append_assoc ys (v ∷ []) c.next.new.self.rest.items ∙ sym all;
      count = ap length items ∙ long xs k ∙ ap (λ n. n + 1) was.count ∙ sym (long ys v);
      kept = subst (All (λ (k : Lock). k.kept ≡ first_kept setup)) (sym items) (All-push (λ (k : Lock). k.kept ≡ first_kept setup) xs k was.kept kept);
      numbers = ap (map (λ (k : Lock). k.number)) items ∙ map-append (λ (k : Lock). k.number) xs (k ∷ []) ∙ (λ i. was.numbers i ++ e.number i ∷ []) ∙ sym (map-append number ys (v ∷ []));
    }
