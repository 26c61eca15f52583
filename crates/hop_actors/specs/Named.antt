-- Which spills a run makes, and what a fault names of one.
use Rattle.std.specs.Prelude.{◌≡◌, ℕ, ◌<◌, List, length}
use Rattle.sha2.specs.Sha256.{sha256}
use Rattle.hop_base.specs.Meaning.{Meaning}
use Rattle.hop_base.specs.Run.{ScriptLines, RunSettings}
use Rattle.hop_base.specs.declared.part.Part.{Part}
use Rattle.hop_records.specs.Records.{lens_of}
use Rattle.hop_shelf.specs.Names.{book_of, rules_of}
use Rattle.hop_spill.specs.Spelling.{spill_text}
use Rattle.hop_spill.specs.SpillFiles.{spill_made}
use Rattle.hop_machine.specs.step.Pushing.{kept_end}
use Rattle.hop_actors.specs.Spilled.{IsKeptSpill}

module _ (job : Meaning) (records : List (List ℕ)) (script : ScriptLines) (settings : RunSettings) where
  -- The part is the range of a spill of the run: of an attempt that may be begun, the k-th range of the spill size, which ends where the script
  -- lets the attempt end or before.
  pub record NamesSpill (at : Part) : Type 0 where
    pub split : at.split < length (lens_of (book_of records settings))
    pub attempt : at.attempt < settings.attempts
    pub spill : IsKeptSpill (lens_of (book_of records settings)) settings.spill (kept_end (rules_of records script settings)) at

  -- and this is the SHA-256 of the text of that spill
  pub record NamesText (at : Part) (digest : List ℕ) : Type 0 where
    pub range : NamesSpill at
    pub digest_is : digest ≡ sha256 (spill_text (spill_made job records settings.split settings.reducers at))
