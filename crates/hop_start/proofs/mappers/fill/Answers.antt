use Rattle.std.proofs.Common.{◌≡◌, ℕ, ◌+◌, ◌<◌, arith, List, [], ◌∷◌, ◌++◌, length, map, refl, sym, ap, ◌∙◌, append_assoc}
use Rattle.std.specs.List.{slice_get, range_with_len}
use Rattle.std.proofs.lemmas.List.{length-append, length-map}
use Rattle.std.proofs.lemmas.List.FromFn.{map-range_with_len_more}
use Rattle.hop_base.specs.Run.{RunSettings}
use Rattle.hop_shelf.specs.Names.{rules_of}
use Rattle.hop_machine.specs.actors.MapperTurns.{Mapper}
use Rattle.hop_machine.specs.home.Starts.{new_mapper}
use Rattle.hop_mapper.specs.Mappers.{MapperValue, mapper_of}
use Rattle.hop_start.specs.Made.{Seat, folder_of, IsFresh}
use Rattle.hop_start.proofs.Filling.{removed, at_seam, longer, each-more, map-more}
use Rattle.hop_start.proofs.mappers.fill.Goals as goal

-- while some worker has no mapper, there is a folder
left : {V : Type 0} (ms : List (MapperValue V Seat)) (old all : List V) (w workers : ℕ) → map folder_of ms ++ old ≡ all → length ms ≡ w → w < workers → length all ≡ workers → 0 < length old
left ms old all w workers e n l h =
    let a = length-append (map folder_of ms) old in let b = length-map ms folder_of in let c = ap length e in omega (arith, a, b, c)

pub worker_mapper-requires-clause-folder : goal.worker_mapper-requires-clause-folder
worker_mapper-requires-clause-folder g c =
    let ms = c.loop-w.mappers.items in let old = c.loop-w.folders.items in let v = c.remove-folder.result in let rest = c.remove-folder.new.self.items in let was = c.loop-w.invariant in
    let own = ap (λ (s : RunSettings). s.workers) c.requires.given.settings_are in
    let some = left ms old _ c.loop-w.w g.N.RunName.settings.workers was.folders was.count (omega arith) c.requires.folders.count in
    let here = sym was.folders ∙ ap (λ l. map folder_of ms ++ l) (removed old v some c.remove-folder.ensures.value) in
    let at : c.loop-w.w ≡ length (map folder_of ms) = sym (length-map ms folder_of ∙ was.count) in
    c.requires.folders.each c.loop-w.w v ((λ i. slice_get (here i) (at i)) ∙ at_seam (map folder_of ms) _ v)

pub loop-w-preserved : goal.loop-w-preserved
loop-w-preserved g c =
    let n = g.N.RunName in
    let xs = c.loop-w.mappers.items in let old = c.loop-w.folders.items in let v = c.remove-folder.result in let rest = c.remove-folder.new.self.items in
    let e = c.in-Ok.ensures in let was = c.loop-w.invariant in let items = c.put_last.ensures.items in
    let f : ℕ → Mapper = λ w. new_mapper w (rules_of n.records n.script n.settings) n.settings.backup n.settings.reducers in
    let own = ap (λ (s : RunSettings). s.workers) c.requires.given.settings_are in
    let some = left xs old _ c.loop-w.w n.settings.workers was.folders was.count (omega arith) c.requires.folders.count in
    let opened : old ≡ v ∷ rest = removed old v some c.remove-folder.ensures.value ∙ ap (λ l. v ∷ l) (sym c.remove-folder.ensures.items) in
    record {
      folders = ap (λ l. l ++ rest) (map-more xs _ _ items folder_of (map folder_of xs) v refl e.folder)
          ∙ append_assoc (map folder_of xs) (v ∷ []) rest ∙ ap (λ l. map folder_of xs ++ l) (sym opened) ∙ was.folders;
      count = longer xs _ _ items ∙ ap (λ k. k + 1) was.count;
      mappers = map-more xs _ _ items (mapper_of n.records n.script n.settings) (map f (range_with_len 0 c.loop-w.w)) (f c.loop-w.w) was.mappers e.made
          ∙ sym (map-range_with_len_more f 0 c.loop-w.w c.loop-w.w (omega arith));
      fresh = each-more xs _ _ items (λ m. IsFresh n.job n.records n.settings n.tells m) was.fresh e.fresh;
      space = omega arith;
      room = omega arith;
    }
