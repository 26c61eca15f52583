-- The lines of a fault script.
use Rattle.std.specs.Prelude.{◌≤◌, ℕ, Bool, false, ◌==◌, ◌&&◌, codes, List, [], ◌∷◌, Option, None, Some, if◌then◌else◌}
use Rattle.std.specs.Str.{bytes_eq}
use Rattle.hop_base.specs.Run.{FailLine, RestartLine, DelayLine}
use Rattle.hop_script.specs.Number.{number_of, ◌>>=◌}
use Rattle.hop_script.specs.declared.line.Line.{Line}
use Rattle.hop_script.specs.declared.line.Line.TheVariants.{Fail, Restart, Delay}

-- the numbers of a line `fail SPLIT ATTEMPT AT`
abbrev pub fail_form : List (List ℕ) → Option Line
fail_form (split ∷ attempt ∷ at ∷ []) = do
  s ← number_of 0 1023 split
  a ← number_of 0 15 attempt
  n ← number_of 0 16777216 at
  Some (Fail s a n)
fail_form words = None

-- the numbers of a line `restart PARTITION ARRIVALS`
abbrev pub restart_form : List (List ℕ) → Option Line
restart_form (partition ∷ arrivals ∷ []) = do
  p ← number_of 0 7 partition
  n ← number_of 1 1000000 arrivals
  Some (Restart p n)
restart_form words = None

-- the numbers of a line `delay WORKER TURNS`
abbrev pub delay_form : List (List ℕ) → Option Line
delay_form (worker ∷ turns ∷ []) = do
  w ← number_of 0 7 worker
  n ← number_of 1 10000 turns
  Some (Delay w n)
delay_form words = None

-- the line that the words are, if they have one of the three forms
abbrev pub line_form : List (List ℕ) → Option Line
line_form [] = None
line_form (word ∷ numbers) =
    if bytes_eq word (codes "fail") then fail_form numbers
    else (if bytes_eq word (codes "restart") then restart_form numbers
    else (if bytes_eq word (codes "delay") then delay_form numbers else None))

-- both lines name the same attempt, the same restart or the same worker
abbrev pub same_name : Line → Line → Bool
same_name (Fail s a n) (Fail s' a' n') = (s == s') && (a == a')
same_name (Restart p n) (Restart p' n') = (p == p') && (n == n')
same_name (Delay w n) (Delay w' n') = w == w'
same_name line other = false

-- the partition of a line is one of eight
abbrev pub HasPartition : Line → Type 0
HasPartition (Fail s a n) = Unit {0}
HasPartition (Restart p n) = p ≤ 7
HasPartition (Delay w n) = Unit {0}

-- what a line says of attempts, of restarts and of delays
abbrev pub fail_part : Line → Option FailLine
fail_part (Fail s a n) = Some (record { split = s; attempt = a; at = n })
fail_part line = None

abbrev pub restart_part : Line → Option RestartLine
restart_part (Restart p n) = Some (record { partition = p; arrivals = n })
restart_part line = None

abbrev pub delay_part : Line → Option DelayLine
delay_part (Delay w n) = Some (record { worker = w; turns = n })
delay_part line = None
