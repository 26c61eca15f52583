-- Fault scripts.
use Rattle.std.specs.Prelude.{◌≡◌, ℕ, Bool, true, List, map, length, take, Option, None, Some, slice_index_or}
use Rattle.std.specs.List.{list_any, filter_map}
use Rattle.std.specs.Option.{option_and_then}
use Rattle.std.specs.declared.cmp.Ordering.{Ordering}
use Rattle.std.specs.Ordering.{nat_cmp, ordering_then}
use Rattle.hop_base.specs.Run.{FailLine, RestartLine, DelayLine, ScriptLines}
use Rattle.hop_base.specs.Sorted.{ord}
use Rattle.hop_script.specs.Text.{lines_of, words_of, first_of_lines}
use Rattle.hop_script.specs.Lines.{line_form, same_name, fail_part, restart_part, delay_part}
use Rattle.hop_script.specs.declared.line.Line.{Line}
use Rattle.hop_script.specs.declared.fault.LineFault.{LineFault}
use Rattle.hop_script.specs.declared.fault.LineFault.TheVariants.{BadLine, NoMemory}

-- what each line of the text says, None for one that has none of the forms
abbrev pub said_by : List ℕ → List (Option Line)
said_by text = map (option_and_then (λ line. line_form (words_of line))) (lines_of text)

-- the lines that say something
abbrev pub given : List (Option Line) → List Line
given said = filter_map (λ line. line) said

-- a line is bad behind others: it says nothing, or names what one of them names
abbrev pub is_bad_behind : List Line → Option Line → Bool
is_bad_behind earlier None = true
is_bad_behind earlier (Some line) = list_any (same_name line) earlier

-- line k, counted from 0, is bad
abbrev pub is_bad : List (Option Line) → ℕ → Bool
is_bad said k = is_bad_behind (given (take k said)) (slice_index_or said k None)

-- the number of the first bad line of the text, counted from 1, if there is one
abbrev pub first_bad : List ℕ → Option ℕ
first_bad text = let said = said_by text in first_of_lines (is_bad said) (length said)

-- by split, then by attempt, and then by place
abbrev pub fail_cmp : FailLine → FailLine → Ordering
fail_cmp x y = ordering_then (ordering_then (nat_cmp x.split y.split) (nat_cmp x.attempt y.attempt)) (nat_cmp x.at y.at)

-- by partition, and then by arrivals
abbrev pub restart_cmp : RestartLine → RestartLine → Ordering
restart_cmp x y = ordering_then (nat_cmp x.partition y.partition) (nat_cmp x.arrivals y.arrivals)

-- by worker, and then by turns
abbrev pub delay_cmp : DelayLine → DelayLine → Ordering
delay_cmp x y = ordering_then (nat_cmp x.worker y.worker) (nat_cmp x.turns y.turns)

-- the lines by their kinds, each ascending
abbrev pub by_kinds : List Line → ScriptLines
by_kinds lines = record {
  fails = ord fail_cmp (filter_map fail_part lines);
  restarts = ord restart_cmp (filter_map restart_part lines);
  delays = ord delay_cmp (filter_map delay_part lines);
}

-- the script of the text
abbrev pub script_of : List ℕ → ScriptLines
script_of text = by_kinds (given (said_by text))

-- why a text is refused, where its first bad line is this one
abbrev pub BadCause : Option ℕ → LineFault → Type 0
BadCause first (BadLine line) = first ≡ Some line
BadCause first NoMemory = Unit {0}
