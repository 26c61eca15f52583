-- What contracts see of a script.
use Rattle.std.specs.Prelude.{ℕ, ◌+◌, List, [], ◌∷◌, ◌++◌, map}
use Rattle.hop_base.specs.Run.{RestartLine, ScriptLines}
use Rattle.hop_script.specs.Draft.{fail_line, delay_line}
use Rattle.hop_script.specs.declared.script.Script.TheInside.{Inside}

-- the arrivals of a partition, as lines
abbrev pub lines_at : ℕ → List ℕ → List RestartLine
lines_at p arrivals = map (λ n. record { partition = p; arrivals = n }) arrivals

-- the arrivals of each partition from p on, as lines
abbrev pub lines_from : ℕ → List (List ℕ) → List RestartLine
lines_from p [] = []
lines_from p (arrivals ∷ lists) = lines_at p arrivals ++ lines_from (p + 1) lists

-- the lines that a script keeps
abbrev pub script_view : Inside → ScriptLines
script_view s = record {
  fails = map fail_line s.fails.entries;
  restarts = lines_from 0 (map (λ list. list.items) s.restarts.items);
  delays = map delay_line s.delays.entries;
}
