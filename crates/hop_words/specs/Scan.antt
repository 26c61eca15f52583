-- How the words of a command line fall into plain words and options.
use Rattle.std.specs.Prelude.{ℕ, Bool, true, false, ◌||◌, if◌then◌else◌, List, [], ◌∷◌, map, filter, Option, None, Some, option_map, is_some, codes}
use Rattle.std.specs.List.{list_any}
use Rattle.std.specs.Str.{bytes_eq}
use Rattle.clap.specs.Lexer.{long_of, short_of}

-- the plain words, and the options with their values, each in its order
pub record Scanned : Type 0 where
  pub plain : List (List ℕ)
  pub given : List (List ℕ × List ℕ)

-- one more plain word in front
abbrev pub with_plain : List ℕ → Scanned → Scanned
with_plain word s = record s { plain = word ∷ s.plain }

-- one more option in front
abbrev pub with_given : List ℕ → List ℕ → Scanned → Scanned
with_given name value s = record s { given = (name, value) ∷ s.given }

-- the word `--`, after which all words are plain
abbrev pub is_end : List ℕ → Bool
is_end word = bytes_eq word (codes "--")

-- the option is one of these
abbrev pub is_known : List (List ℕ) → List ℕ → Bool
is_known names name = list_any (λ known. bytes_eq known name) names

-- the word begins with `-`; a lone `-` is left to the tests of the plain words, none of which takes it
abbrev pub is_dashed : List ℕ → Bool
is_dashed word = is_some (long_of word) || is_some (short_of word) || is_end word

-- an option with its value in the same word, or in the next one
abbrev pub scan_option : Bool → List ℕ → Option (List ℕ) → Option Scanned → Option Scanned → Option Scanned
scan_option false name value after waiting = None
scan_option true name (Some value) after waiting = option_map (with_given name value) after
scan_option true name None after waiting = waiting

-- a word that isn't `--name` or `--name=value`: one that begins with `-` is refused, others are plain
abbrev pub scan_plain : Option (List ℕ) → List ℕ → Option Scanned → Option Scanned
scan_plain (Some flags) word after = None
scan_plain None word after = option_map (with_plain word) after

module _ (names : List (List ℕ)) where
  -- a word before which no option waits for its value
  abbrev pub scan_word : Option (List ℕ × Option (List ℕ)) → List ℕ → Option Scanned → (List ℕ → Option Scanned) → Option Scanned
  scan_word (Some long) word after waiting = scan_option (is_known names long.0) long.0 long.1 after (waiting long.0)
  scan_word None word after waiting = scan_plain (short_of word) word after

  -- the words after one that named this option without its value, or after none
  abbrev pub scan : Option (List ℕ) → List (List ℕ) → Option Scanned
  scan None [] = Some (record { plain = []; given = [] })
  scan (Some name) [] = None
  scan None (word ∷ words) =
      if is_end word then Some (record { plain = words; given = [] })
      else scan_word (long_of word) word (scan None words) (λ name. scan (Some name) words)
  scan (Some name) (word ∷ words) =
      if is_dashed word then None else option_map (with_given name word) (scan None words)

-- the values that are given to an option
abbrev pub values_given : List ℕ → Scanned → List (List ℕ)
values_given name s = map (λ g. g.1) (filter (λ g. bytes_eq g.0 name) s.given)
