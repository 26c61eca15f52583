-- The spill that a run makes of a range is a spill.
use Rattle.std.proofs.Common.{◌≡◌, ℕ, zero, suc, ◌+◌, ◌-◌, ◌*◌, ◌<◌, ◌≤◌, ◌^◌, List, length, drop, sym, subst, arith}
use Rattle.std.specs.Prelude.{All, map, min}
use Rattle.std.specs.List.{range_with_len}
use Rattle.std.proofs.lemmas.List.{length-take}
use Rattle.std.proofs.lemmas.List.FromFn.{length-map-range_with_len}
use Rattle.std.proofs.lemmas.List.Elements.{All-take, All-drop}
use Rattle.hop_base.specs.declared.part.Part.{Part}
use Rattle.hop_base.specs.declared.value.Pair.{Pair}
use Rattle.hop_base.specs.Meaning.{Meaning}
use Rattle.hop_laws.specs.Blocking.{part_records, part_pairs}
use Rattle.hop_laws.specs.Laws.{IsLawful}
use Rattle.hop_laws.specs.Partition.{partition_of}
use Rattle.hop_laws.proofs.Emitted.{valid_part}
use Rattle.hop_spill.specs.Spelling.{IsSheetOf, AreSheetsFrom, IsSpill}
use Rattle.hop_spill.specs.SpillFiles.{sheet_made, spill_made}
use Rattle.hop_mapper.proofs.Sizes.{combined_sheet, combined_few, combined_keyed, of_partition_all, emitted_few}
use Rattle.std.specs.List.{flat_map}

made_sheets : (f : ℕ → List Pair) (p k r : ℕ) → ((q : ℕ) → p ≤ q → q < p + k → IsSheetOf q r (f q)) → AreSheetsFrom p r (map f (range_with_len p k))
made_sheets f p zero r h = tt
made_sheets f p (suc k) r h = (h p (omega arith) (omega arith), made_sheets f (p + 1) k r (λ q a b. h q (omega arith) (omega arith)))

module _ (meaning : Meaning) (records : List (List ℕ)) (n r : ℕ) (laws : IsLawful meaning) (short : All (λ line. length line ≤ 131050) records) where
  -- the range is one of the run's, and no longer than a spill
  pub record IsShortRange (part : Part) : Type 0 where
    pub split : part.split ≤ 1023
    pub attempt : part.attempt ≤ 15
    pub from : part.from < 16777216
    pub some : part.from < part.to
    pub to : part.to ≤ 16777216
    pub few : part.to - part.from ≤ 65535

  few_pairs : (p : ℕ) (part : Part) → part.to - part.from ≤ 65535 → length (sheet_made meaning records n r part p) < 2 ^ 32
  few_pairs p part few =
      let valid = valid_part meaning laws records short n p r part in
      let a = combined_few meaning.combined (part_pairs meaning records n p r part) laws.combines_well valid in
      let rs : List (List ℕ) = part_records records n part in
      let brief : All (λ line. length line ≤ 131050) rs = All-take (λ line. length line ≤ 131050) (part.to - part.from) (drop (part.split * n + part.from) records) (All-drop (λ line. length line ≤ 131050) (part.split * n + part.from) records short) in
      let b = emitted_few meaning laws rs brief p r in
      let c : length rs ≡ min (part.to - part.from) (length (drop (part.split * n + part.from) records)) = length-take (part.to - part.from) (drop (part.split * n + part.from) records) in
      omega arith

  -- the spill of such a range is one
  pub is_spill : (part : Part) → IsShortRange part → 1 ≤ r → r ≤ 8 → IsSpill (spill_made meaning records n r part)
  is_spill part range some few =
      let len = length-map-range_with_len (sheet_made meaning records n r part) 0 r in
      record {
        split = range.split;
        attempt = range.attempt;
        from = range.from;
        some = range.some;
        to = range.to;
        some_reducer = omega arith;
        few_reducers = omega arith;
        sheets = subst (λ k. AreSheetsFrom 0 k (map (sheet_made meaning records n r part) (range_with_len 0 r))) (sym len) (made_sheets (sheet_made meaning records n r part) 0 r r (λ q a b. record {
          sheet = combined_sheet meaning.combined (part_pairs meaning records n q r part) laws.combines_well (valid_part meaning laws records short n q r part);
          few = few_pairs q part range.few;
          partition = combined_keyed (λ key. partition_of key r ≡ q) meaning.combined (part_pairs meaning records n q r part) (of_partition_all q r (flat_map meaning.emits (part_records records n part)));
        }));
      }
