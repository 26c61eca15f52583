use Rattle.std.proofs.Common.{◌≡◌, ℕ, ◌≤◌, ◌+◌, List, [], ◌∷◌, ◌++◌, map, refl, sym, ap, ◌∙◌, arith}
use Rattle.std.proofs.lemmas.List.{map-append}
use Rattle.std.proofs.lemmas.List.FromFn.{map-range_with_len_more}
use Rattle.hop_event.specs.declared.event.Event.{Event}
use Rattle.hop_machine.specs.step.Steps.{Did, Kept}
use Rattle.hop_machine.specs.home.Said.{history_of}
use Rattle.hop_finish.specs.Left.{numbered_history, recorded, recorded_of}
use Rattle.hop_finish.proofs.LeftLaws.{at_later}
use Rattle.hop_finish.proofs.shelves.take_shelves.Goals as goal

pub loop-p-preserved : goal.loop-p-preserved
loop-p-preserved g c =
    let start = g.E.Reach.deeds c.args.reach.now in
    let before = g.E.Reach.deeds c.loop-p.reach in
    let p = c.loop-p.p in
    let shelf = c.hold-shelf.result in
    let step = c.hold-shelf.ensures.step in
    let kept : before.did.keeps p ≡ start.did.keeps p = c.loop-p.invariant.later p (omega arith) in
    let events : shelf.journal.events ≡ history_of start p = step.tells.events ∙ ap (λ (k : Kept). k.events) kept in
    let said : numbered_history shelf ≡ recorded start p = λ i. (c.hold-shelf.ensures.number i, events i) in
    let next : 0 + p ≡ p = omega arith in
    record {
      ends = step.ends ∙ c.loop-p.invariant.ends;
      later = λ q after.
          ap (λ (d : Did). d.keeps q) step.did
          ∙ at_later before.did.keeps p q (record (before.did.keeps p) { held = Rattle.std.proofs.Common.true }) (omega (arith, after))
          ∙ c.loop-p.invariant.later q (omega (arith, after));
      told =
          ap (map numbered_history) c.in_ok-push.ensures.items
          ∙ map-append numbered_history c.loop-p.shelves.items (shelf ∷ [])
          ∙ ap (λ (xs : List (ℕ × List Event)). xs ++ numbered_history shelf ∷ []) c.loop-p.invariant.told
          ∙ ap (λ (x : ℕ × List Event). recorded_of start p ++ x ∷ []) said
          ∙ sym (map-range_with_len_more (recorded start) 0 p p next);
    }
