-- Two small programs.
use Rattle.std.specs.Prelude.{ℕ, Bool, Option, Some, None, if◌then◌else◌}
use Rattle.hop_machine.specs.declared.words.Who.TheVariants as whose
use Rattle.hop_machine.specs.declared.words.Message.{Message}
use Rattle.hop_machine.specs.declared.words.Message.TheVariants.{Range, Notice}
use Rattle.hop_machine.specs.step.Steps.{Prog, Done, Then, and_then, Send, Take, NextSplit, Join, AskRevoked}

-- what is held goes out, if the lane has room
abbrev pub flush_one : ℕ → ℕ → Option Message → Prog (Option Message)
flush_one w p None = Done None
flush_one w p (Some m) = Then (Send w p m) (λ ok. if ok then Done None else Done (Some m))

-- and then a split is asked for
abbrev pub small_turn : ℕ → ℕ → Option Message → Prog (Option Message × Option ℕ)
small_turn w p held = and_then (flush_one w p held) (λ rest. Then (NextSplit w) (λ o. Done (rest, o)))

-- whether the attempt of a notice is revoked
abbrev pub reads : ℕ → Option Message → Prog (Option Bool)
reads p None = Done None
reads p (Some (Range part)) = Done None
reads p (Some (Notice i a)) = Then (Join p i a) (λ _. Then (AskRevoked (whose.Reducer p) i a) (λ o. Done (Some o)))

-- a message is taken and read
abbrev pub read_one : ℕ → ℕ → Prog (Option Bool)
read_one w p = Then (Take w p) (λ o. reads p o)
