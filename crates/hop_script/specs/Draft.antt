-- The lines of a script while it is read.
use Rattle.std.specs.Prelude.{◌≡◌, ◌<◌, true, false, List, [], ◌∷◌, ◌++◌, Option, Some, length, map, nat_le}
use Rattle.std.specs.List.{list_all, filter_map}
use Rattle.std.specs.Prelude.{ℕ}
use Rattle.std.specs.BTreeSet.{BTreeSet}
use Rattle.hop_base.specs.Run.{FailLine, RestartLine, DelayLine}
use Rattle.hop_base.specs.Sorted.{ord}
use Rattle.hop_script.specs.Lines.{fail_part, restart_part, delay_part}
use Rattle.hop_script.specs.Script.{said_by, is_bad_behind, fail_cmp, restart_cmp, delay_cmp}
use Rattle.hop_script.specs.declared.line.Line.{Line}
use Rattle.hop_script.specs.declared.draft.Attempt.{Attempt}
use Rattle.hop_script.specs.declared.draft.Restart.{Restart}
use Rattle.hop_script.specs.declared.draft.Draft.{Draft}

-- an attempt and its place, as a line
abbrev pub fail_line : Attempt × ℕ → FailLine
fail_line e = record { split = e.0.split; attempt = e.0.attempt; at = e.1 }

-- a restart, as a line
abbrev pub restart_line : Restart → RestartLine
restart_line r = record { partition = r.partition; arrivals = r.arrivals }

-- a worker and its turns, as a line
abbrev pub delay_line : ℕ × ℕ → DelayLine
delay_line e = record { worker = e.0; turns = e.1 }

-- the draft has exactly these lines
pub record IsDraftOf (draft : Draft) (lines : List Line) : Type 0 where
  pub fails : map fail_line draft.fails.entries ≡ ord fail_cmp (filter_map fail_part lines)
  pub restarts : map restart_line draft.restarts.keys ≡ ord restart_cmp (filter_map restart_part lines)
  pub delays : map delay_line draft.delays.entries ≡ ord delay_cmp (filter_map delay_part lines)
  pub few : list_all (λ (r : RestartLine). nat_le r.partition 7) (filter_map restart_part lines) ≡ true

-- the first line of the text is bad behind others
abbrev pub BeginsBadly : List ℕ → List Line → Type 0
BeginsBadly text earlier = (first : Option Line) × (later : List (Option Line)) × (said_by text ≡ first ∷ later) × (is_bad_behind earlier first ≡ true)

-- the first line of the text is good behind others, the draft has it too, and another text follows
pub record Begins (text : List ℕ) (earlier : List Line) (left : Draft) (after : List ℕ) : Type 0 where
  pub line : Line
  pub said : said_by text ≡ Some line ∷ said_by after
  pub good : is_bad_behind earlier (Some line) ≡ false
  pub draft : IsDraftOf left (earlier ++ line ∷ [])
  pub shorter : length after < length text

-- the set has exactly these restarts, of partitions below 8
pub record HasRestarts (restarts : BTreeSet Restart) (lines : List RestartLine) : Type 0 where
  pub kept : map restart_line restarts.keys ≡ ord restart_cmp lines
  pub few : list_all (λ (r : RestartLine). nat_le r.partition 7) lines ≡ true
