-- The refusals of a run's input, one after another.
use Rattle.std.proofs.Common.{◌≡◌, ℕ, ◌<◌, ◌≤◌, List, None, Some, refl}
use Rattle.std.proofs.lemmas.Bool.{lt-ltb, le-ltb}
use Rattle.hop_base.specs.Run.{RunSettings}
use Rattle.hop_records.specs.Records.{first_long, records_of, spill_count, splits_of}
use Rattle.hop_top.specs.Plans.{book_read, input_refusal}
use Rattle.hop_top.specs.declared.outcome.Outcome.TheVariants as outcome
use Rattle.hop_top.specs.declared.outcome.Refusal.TheVariants as refusal

module _ (settings : RunSettings) (input : List ℕ) (short : first_long (records_of input) ≡ None) (few : splits_of (book_read settings input) ≤ 1024) where
  pub not_refused : spill_count (book_read settings input) settings.spill ≤ 65536 → input_refusal settings input ≡ None
  not_refused spills = rw (short, le-ltb _ _ few, le-ltb _ _ spills) refl

  pub spills_refused : 65536 < spill_count (book_read settings input) settings.spill → input_refusal settings input ≡ Some (outcome.InputRefused (refusal.TooManySpills (spill_count (book_read settings input) settings.spill)))
  spills_refused spills = rw (short, le-ltb _ _ few, lt-ltb _ _ spills) refl
