-- The rules of the one clap command: an option for each name, and the plain words.
use Rattle.std.proofs.Common.{◌≡◌, ℕ, Bool, true, false, cond, List, [], ◌∷◌, ◌++◌, Option, None, Some, map, refl, ap}
use Rattle.std.specs.Prelude.{◌||◌}
use Rattle.std.specs.Str.{bytes_eq}
use Rattle.std.proofs.lemmas.Bool.{true≢false, false≢true}
use Rattle.std.proofs.lemmas.Slice.Eq.{bytes_eq-Decides}
use Rattle.clap.specs.Walk.{Rule, Text, arg_by_id, arg_by_long, arg_by_short, arg_by_index}
use Rattle.clap.specs.Simple.{filled, filled_from, with_index}
use Rattle.hop_words.specs.Clap.{option_rule, plain_id, plain_rule}
use Rattle.hop_words.specs.Scan.{is_known}

-- the same when the command is built
abbrev pub built_option : Text → Rule
built_option name = filled (option_rule name)

abbrev pub built_plain : Rule
built_plain = with_index 1 (filled plain_rule)

abbrev pub built_rules : List Text → List Rule
built_rules [] = built_plain ∷ []
built_rules (name ∷ names) = built_option name ∷ built_rules names

pub filled_rules : (names : List Text) → filled_from 1 (map option_rule names ++ plain_rule ∷ []) ≡ built_rules names
filled_rules [] = refl
filled_rules (name ∷ names) = ap (λ rules. built_option name ∷ rules) (filled_rules names)

pub same_text : (a b : Text) → bytes_eq a b ≡ true → a ≡ b
same_text a b e = (bytes_eq-Decides a b).0 e

pub text_itself : (a : Text) → bytes_eq a a ≡ true
text_itself a = (bytes_eq-Decides a a).1 refl

-- ---- what is found of them

first_option : (known name : Text) (b : Bool) (rest : Bool) (others : Option Rule) → bytes_eq known name ≡ b → (rest ≡ true → others ≡ Some (built_option name)) → (b || rest) ≡ true
    → cond b (Some (built_option known)) others ≡ Some (built_option name)
first_option known name true rest others e later h = ap (λ n. Some (built_option n)) (same_text known name e)
first_option known name false rest others e later h = later h

no_option : (known name : Text) (b : Bool) (rest : Bool) (others : Option Rule) → (rest ≡ false → others ≡ None) → (b || rest) ≡ false → cond b (Some (built_option known)) others ≡ None
no_option known name true rest others later h = absurd (true≢false h)
no_option known name false rest others later h = later h

or_false : (b : Bool) → (b || false) ≡ b
or_false true = refl
or_false false = refl

pub long_known : (names : List Text) (name : Text) → is_known names name ≡ true → arg_by_long (built_rules names) name ≡ Some (built_option name)
long_known [] name e = absurd (false≢true e)
long_known (known ∷ names) name e =
    rw (or_false (bytes_eq known name)) (first_option known name (bytes_eq known name) (is_known names name) (arg_by_long (built_rules names) name) refl (long_known names name) e)

pub long_unknown : (names : List Text) (name : Text) → is_known names name ≡ false → arg_by_long (built_rules names) name ≡ None
long_unknown [] name e = refl
long_unknown (known ∷ names) name e =
    rw (or_false (bytes_eq known name)) (no_option known name (bytes_eq known name) (is_known names name) (arg_by_long (built_rules names) name) (long_unknown names name) e)

pub id_known : (names : List Text) (name : Text) → is_known names name ≡ true → arg_by_id (built_rules names) name ≡ Some (built_option name)
id_known [] name e = absurd (false≢true e)
id_known (known ∷ names) name e = first_option known name (bytes_eq known name) (is_known names name) (arg_by_id (built_rules names) name) refl (id_known names name) e

pub id_plain : (names : List Text) → is_known names plain_id ≡ false → arg_by_id (built_rules names) plain_id ≡ Some built_plain
id_plain [] e = refl
id_plain (known ∷ names) e = at (bytes_eq known plain_id) e (id_plain names)
  where
    at : (b : Bool) → (b || is_known names plain_id) ≡ false → (is_known names plain_id ≡ false → arg_by_id (built_rules names) plain_id ≡ Some built_plain) → cond b (Some (built_option known)) (arg_by_id (built_rules names) plain_id) ≡ Some built_plain
    at true h later = absurd (true≢false h)
    at false h later = later h

pub no_short : (names : List Text) (x : ℕ) → arg_by_short (built_rules names) x ≡ None
no_short [] x = refl
no_short (known ∷ names) x = no_short names x

pub position_plain : (names : List Text) → arg_by_index (built_rules names) 1 ≡ Some built_plain
position_plain [] = refl
position_plain (known ∷ names) = position_plain names
