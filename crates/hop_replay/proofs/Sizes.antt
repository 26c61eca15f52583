-- The size of a run.
use Rattle.std.proofs.Common.{◌≡◌, ◌⊎◌, inl, inr, ℕ, ◌≤◌, ◌<◌, List, length, slice_index, subst, arith}
use Rattle.std.proofs.Math.ListN.{get_or-eq_default}
use Rattle.hop_base.specs.Run.{ScriptLines, RunSettings, delay_of}
use Rattle.hop_base.specs.Ranges.{AreLens}
use Rattle.hop_records.specs.Records.{lens_of}
use Rattle.hop_shelf.specs.Names.{book_of}
use Rattle.hop_inner.specs.Setups.{setup_of}
use Rattle.hop_machine.proofs.ending.Winners.{less_or_not}
use Rattle.hop_settle.specs.Crews.{IsSized}

small-len : (lens : List ℕ) → AreLens lens → (i : ℕ) → (i < length lens) ⊎ (length lens ≤ i) → slice_index lens i ≤ 16777216
small-len lens z i (inl l) = (z.each i 0 l).few
small-len lens z i (inr l) = let e : slice_index lens i ≡ 0 = get_or-eq_default lens 0 l in omega (arith, e)

-- a run is sized, by the ranges of what it is given
pub is-sized : (records : List (List ℕ)) (script : ScriptLines) (settings : RunSettings) (lens : List ℕ) → settings.workers ≤ 8 → settings.reducers ≤ 8 → settings.attempts ≤ 16 → 0 < settings.lane
    → lens ≡ lens_of (book_of records settings) → AreLens lens → ((w : ℕ) → delay_of script w ≤ 10000) → IsSized (setup_of records script settings)
is-sized records script settings lens workers reducers attempts room same z delays =
    let k : AreLens (lens_of (book_of records settings)) = subst AreLens same z in
    record {
      workers = workers;
      reducers = reducers;
      attempts = attempts;
      splits = k.few;
      lens = λ i. small-len (lens_of (book_of records settings)) k i (less_or_not i (length (lens_of (book_of records settings))));
      delays = delays;
      room = room;
    }
