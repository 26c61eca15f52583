use Rattle.std.proofs.Common.{arith, [], ◌∷◌, ◌++◌, length, map, sym, ap, ◌∙◌, append_assoc}
use Rattle.std.proofs.lemmas.List.{map-append}
use Rattle.hop_vault.specs.Vaults.{VaultValue}
use Rattle.hop_start.specs.Made.{folder_of}
use Rattle.hop_start.proofs.mappers.folders_back.Goals as goal

pub loop-mapper-preserved : goal.loop-mapper-preserved
loop-mapper-preserved g c =
    let olds = c.loop-mapper.folders.items in let ms = c.pop.new.self.items in let m = c.in-Some.mapper in let was = c.loop-mapper.invariant in
    let folder = c.into_folder.ensures ∙ ap (λ (v : VaultValue g.row.V.Denot). v.folder) c.into_vault.ensures in
    let now = c.put_first.ensures.items in let long = ap length now in let popped = c.in-Some.ensures.items in
    record {
      items = ap (λ l. map folder_of ms ++ l) (now ∙ (λ i. folder i ∷ olds)) ∙ sym (append_assoc (map folder_of ms) (folder_of m ∷ []) olds)
          ∙ ap (λ l. l ++ olds) (sym (map-append folder_of ms (m ∷ [])) ∙ ap (map folder_of) (sym popped)) ∙ was.items;
      space = omega (arith, long, c.put_first.new.list.ok, c.loop-mapper.folders.ok, c.in-Some.ensures.len);
      room = omega arith;
    }
