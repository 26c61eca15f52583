-- The runs of a range, as parcels.
use Rattle.std.proofs.Common.{◌≡◌, ℕ, ◌<◌, List, [], ◌∷◌, length, refl, sym, ap, ◌∙◌, subst, arith}
use Rattle.std.specs.Prelude.{map, slice_index_or}
use Rattle.std.specs.List.{range_with_len}
use Rattle.std.proofs.lemmas.List.FromFn.{length-map-range_with_len, get_or-map-range_with_len}
use Rattle.std.proofs.lemmas.List.Elements.{All-nil, All-cons}
use Rattle.hop_spill.specs.declared.spill.Spill.{Spill}
use Rattle.hop_spill.specs.SpillFiles.{sheet_made, spill_made}
use Rattle.hop_base.specs.declared.part.Part.{Part}
use Rattle.hop_base.specs.Meaning.{Meaning}
use Rattle.hop_base.specs.Run.{RunSettings}
use Rattle.hop_run.specs.Runs.{RunValue, combined_run, empty_run}
use Rattle.hop_shelf.specs.Sound.{IsParcel}

mapped_twice : (job : Meaning) (records : List (List ℕ)) (n r : ℕ) (part : Part) (ps : List ℕ) → map (λ (run : RunValue). run.sheet) (map (combined_run job records n r part) ps) ≡ map (sheet_made job records n r part) ps
mapped_twice job records n r part [] = refl
mapped_twice job records n r part (p ∷ ps) = ap (λ xs. sheet_made job records n r part p ∷ xs) (mapped_twice job records n r part ps)

module _ (job : Meaning) (records : List (List ℕ)) (settings : RunSettings) (part : Part) (runs : List RunValue)
    (made : runs ≡ map (combined_run job records settings.split settings.reducers part) (range_with_len 0 settings.reducers)) where
  -- there is one for each reducer
  pub runs_count : length runs ≡ settings.reducers
  runs_count = ap length made ∙ length-map-range_with_len (combined_run job records settings.split settings.reducers part) 0 settings.reducers

  -- each is of the range
  pub runs_own : part.from < part.to → (p : ℕ) → p < length runs → IsParcel part (slice_index_or runs p empty_run)
  runs_own some p below =
      let n = runs_count in
      let at : slice_index_or runs p empty_run ≡ combined_run job records settings.split settings.reducers part p =
      ap (λ (xs : List RunValue). slice_index_or xs p empty_run) made ∙ get_or-map-range_with_len (combined_run job records settings.split settings.reducers part) 0 settings.reducers p p empty_run (omega arith) (omega arith) in
      subst (λ (run : RunValue). IsParcel part run) (sym at) (record {
        chain = (refl, some, refl);
        own = All-cons (λ (q : Part). (q.split ≡ part.split) × (q.attempt ≡ part.attempt)) part [] (refl, refl) (All-nil (λ (q : Part). (q.split ≡ part.split) × (q.attempt ≡ part.attempt)));
      })

  -- their sheets are those of the spill
  pub sheets_are : map (λ (run : RunValue). run.sheet) runs ≡ map (sheet_made job records settings.split settings.reducers part) (range_with_len 0 settings.reducers)
  sheets_are = ap (map (λ (run : RunValue). run.sheet)) made ∙ mapped_twice job records settings.split settings.reducers part (range_with_len 0 settings.reducers)

  module _ (spill : Spill) (value : spill ≡ record { split = part.split; attempt = part.attempt; from = part.from; to = part.to; sheets = map (λ (run : RunValue). run.sheet) runs }) where
    pub spill_value : spill ≡ spill_made job records settings.split settings.reducers part
    spill_value = value ∙ (λ i. record { split = part.split; attempt = part.attempt; from = part.from; to = part.to; sheets = sheets_are i })
