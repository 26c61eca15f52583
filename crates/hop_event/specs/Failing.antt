-- Which attempts fail by the script.
use Rattle.std.specs.Prelude.{ℕ, ◌+◌, ◌<◌, Option, IsSome, is_none, find}
use Rattle.std.specs.Option.{option_map}
use Rattle.std.specs.List.{range_with_len}
use Rattle.hop_base.specs.Run.{ScriptLines, fails_at}

-- the script has a line for the attempt
abbrev pub Fails : ScriptLines → ℕ → ℕ → Type 0
Fails script i a = IsSome (fails_at script i a)

-- each attempt of the split that may be begun fails
abbrev pub IsDoomed : ScriptLines → ℕ → ℕ → Type 0
IsDoomed script attempts i = (a : ℕ) → a < attempts → Fails script i a

-- how many attempts of the split are begun until one succeeds, if one does
abbrev pub tries : ScriptLines → ℕ → ℕ → Option ℕ
tries script attempts i = option_map (λ a. a + 1) (find (λ a. is_none (fails_at script i a)) (range_with_len 0 attempts))
