-- A parse of the one clap command agrees with the scan.
use Rattle.std.proofs.Common.{◌≡◌, Bool, true, false, if◌then◌else◌, List, [], ◌∷◌, ◌++◌, Option, None, Some, map, refl, sym, ap, ap₂, subst, ◌∙◌, codes}
use Rattle.std.specs.Prelude.{not, is_some, ◌&&◌, ◌||◌, find, option_map, fold, count_by}
use Rattle.std.specs.List.{list_any, list_all}
use Rattle.std.specs.Option.{option_map_or}
use Rattle.std.proofs.Common.{◌⊎◌, inl, inr, unwrap_or}
use Rattle.std.specs.Borrow.{Bor}
use Rattle.std.specs.Str.{bytes_eq}
use Rattle.clap.specs.Kinds.{HasKind, IsAmong, Kinds, or_else}
use Rattle.clap.specs.Matches.{found_of, matched_of, raw_values}
use Rattle.clap.specs.Values.{kind_of}
use Rattle.clap.proofs.WalkLemmas.{raw_values-rows}
use Rattle.clap.specs.declared.error.Error.{Error}
use Rattle.clap.specs.declared.error.kind.ErrorKind.{ErrorKind}
use Rattle.clap.specs.declared.error.kind.ErrorKind.TheVariants.{OutOfMemory}
use Rattle.clap.specs.declared.parser.matches.ArgMatches.{ArgMatches}
use Rattle.clap.specs.declared.parser.matches.Found.{Found}
use Rattle.hop_words.specs.Table.{option_names}
use Rattle.clap.specs.Walk.{Row, is_early_multiple, Rule, Text, has_row, nothing_held, rows_after, rows_of, walk, walk_from, with_default}
use Rattle.clap.specs.Faults.{check_fault, defaults_fault, entered_fault, fault_of, is_simple_and_free, level_fault, walk_fault}
use Rattle.clap.specs.Takes.{is_given}
use Rattle.clap.specs.Simple.{App, HasMatchesOf, built, entered, matches_of}
use Rattle.hop_words.specs.Clap.{AllText, Finds, HasValues, NamesProgram, hop_app, option_rule, plain_id, plain_rule, texts_in, values_at, values_for, words_behind}
use Rattle.hop_words.specs.Scan.{Scanned, is_known, scan}
use Rattle.hop_words.proofs.ClapRules.{built_rules, filled_rules}
use Rattle.hop_words.proofs.ClapWalk.{Agrees, both_ways, end_rows, faults, shape}

-- it when it is built
abbrev pub built_app : List Text → App
built_app names = record { top = shape names; subs = [] }

pub built_is : (names : List Text) → built (hop_app names) ≡ built_app names
built_is names = ap (λ (rules : List Rule). record { top = record (shape []) { rules = rules }; subs = [] }) (filled_rules names)

or_true : (b : Bool) → (b || true) ≡ true
or_true true = refl
or_true false = refl

either_way : {A : Type 0} (b : Bool) (x : A) → (if b then x else x) ≡ x
either_way true x = refl
either_way false x = refl

-- no argument has a default, and none is required
no_defaults : (names : List Text) (rows : List Row) → defaults_fault rows (built_rules names) ≡ []
unfolding defaults_fault
no_defaults [] rows = rw or_true refl
no_defaults (name ∷ names) rows = rw (or_true, either_way) (no_defaults names rows)

same_rows : (names : List Text) (rows : List Row) → fold with_default rows (built_rules names) ≡ rows
same_rows [] rows = either_way (has_row plain_id rows) rows
same_rows (name ∷ names) rows = ap (λ (r : List Row). fold with_default r (built_rules names)) (either_way (has_row name rows) rows) ∙ same_rows names rows

none_required : (names : List Text) (rows : List Row) → list_any (λ a. a.required && not (is_given a.id rows)) (built_rules names) ≡ false
none_required [] rows = refl
none_required (name ∷ names) rows = none_required names rows

module _ (names : List Text) where
  no_checks : (rows : List Row) (has : Bool) → check_fault (shape names) rows has ≡ []
  no_checks rows true = rw (none_required names rows) refl
  no_checks rows false = rw (none_required names rows) refl

  -- no subcommand is met
  not_entered : (stop : Option (Text × List Text)) → entered (built_app names) stop ≡ None
  not_entered None = refl
  not_entered (Some p) = refl

  no_entered_fault : (stop : Option (Text × List Text)) → entered_fault (built_app names) stop ≡ []
  no_entered_fault None = refl
  no_entered_fault (Some p) = refl

  or_none : (a : Kinds) → or_else a [] ≡ a
  or_none [] = refl
  or_none (k ∷ ks) = refl

  level_is : (words : List Text) (has : Bool) (below : Kinds) → below ≡ [] → level_fault (shape names) [] nothing_held words has below ≡ faults names (walk_from nothing_held) words
  level_is words has below e =
      rw (e, no_defaults names _, no_checks _ has) (ap (λ (k : Kinds). or_else (walk_fault (shape names) [] (walk_from nothing_held) words) k) (or_none _))

  abbrev words_after : List Text → List Text
  words_after words = codes "hop" ∷ words

  pub fault_is : (words : List Text) → fault_of (hop_app names) (words_after words) ≡ faults names (walk_from nothing_held) words
  fault_is words =
      ap (λ (a : App). level_fault a.top (map (λ s. (s.name, s.aliases)) a.subs) nothing_held words (is_some (entered a (walk a.top.rules (map (λ s. (s.name, s.aliases)) a.subs) nothing_held words).stopped)) (entered_fault a (walk a.top.rules (map (λ s. (s.name, s.aliases)) a.subs) nothing_held words).stopped)) (built_is names)
      ∙ level_is words _ _ (no_entered_fault (walk (built_rules names) [] nothing_held words).stopped)

  pub rows_are : (words : List Text) → matches_of (hop_app names) (words_after words) ≡ end_rows names (walk_from nothing_held) words
  rows_are words =
      ap (λ (a : App). rows_after a.top.rules (map (λ s. (s.name, s.aliases)) a.subs) words) (built_is names)
      ∙ same_rows names _

  -- clap refuses the words exactly where the scan does, and else it finds the same values
  abbrev pub AgreesWith : Option Scanned → List Text → Type 0
  AgreesWith None words = fault_of (hop_app names) (words_after words) ≡ [] → ⊥
  AgreesWith (Some s) words = (fault_of (hop_app names) (words_after words) ≡ []) × ((id : Text) → values_at id (matches_of (hop_app names) (words_after words)) ≡ values_for id s)

  agrees_with : (o : Option Scanned) (words : List Text) → Agrees names o (walk_from nothing_held) words → AgreesWith o words
  agrees_with None words h = λ e. h (sym (fault_is words) ∙ e)
  agrees_with (Some s) words h = (fault_is words ∙ h.0, λ id. ap (values_at id) (rows_are words) ∙ h.1 id)

  pub clap_agrees : (words : List Text) → is_known names plain_id ≡ false → AllText words → AgreesWith (scan names None words) words
  clap_agrees words fresh text = agrees_with (scan names None words) words ((both_ways names fresh words text).0 false [] None refl)

  all_simple : (names : List Text) → list_all (λ a. a.is_simple) (map option_rule names ++ plain_rule ∷ []) ≡ true
  all_simple [] = refl
  all_simple (name ∷ names) = all_simple names

  built_simple : (names : List Text) → list_all (λ a. a.is_simple) (built_rules names) ≡ true
  built_simple [] = refl
  built_simple (name ∷ names) = built_simple names

  built_free : (names : List Text) → list_all (λ a. a.is_free) (built_rules names) ≡ true
  built_free [] = refl
  built_free (name ∷ names) = built_free names

  one_index : (names : List Text) → count_by (λ (a : Rule). is_some a.index) (built_rules names) ≡ 1
  one_index [] = refl
  one_index (name ∷ names) = one_index names

  none_early : (names : List Text) → list_any (is_early_multiple 1) (built_rules names) ≡ false
  none_early [] = refl
  none_early (name ∷ names) = none_early names

  simple : is_simple_and_free (hop_app names) ≡ true
  simple = rw (all_simple names, filled_rules names, built_simple names, built_free names, one_index names, none_early names) refl

and_left : (a b : Bool) → (a && b) ≡ true → a ≡ true
and_left true b e = refl
and_left false b e = e

-- what a parse finds, and when it refuses
module _ (words : List Text) (app : App) (texts : List Text) (is_app : app ≡ hop_app option_names) (are_texts : texts ≡ codes "hop" ∷ words) (utf8 : AllText words) where
  simple_app : is_simple_and_free app ≡ true
  simple_app = ap is_simple_and_free is_app ∙ simple option_names

  fault_same : fault_of app texts ≡ fault_of (hop_app option_names) (codes "hop" ∷ words)
  fault_same = ap₂ fault_of is_app are_texts

  agreed : AgreesWith option_names (scan option_names None words) words
  agreed = clap_agrees option_names words refl utf8

  found_by : (o : Option Scanned) (m : ArgMatches) → AgreesWith option_names o words → fault_of app texts ≡ [] → rows_of (found_of m) ≡ matches_of app texts → HasValues o m
  found_by None m h none rows = h (sym fault_same ∙ none)
  found_by (Some s) m h none rows = λ id. ap (values_at id) (rows ∙ ap₂ matches_of is_app are_texts) ∙ h.1 id

  pub found : (m : ArgMatches) → HasMatchesOf app texts m → (is_simple_and_free app ≡ true → fault_of app texts ≡ []) → Finds words m
  found m has none = found_by (scan option_names None words) m agreed (none simple_app) (has (and_left _ _ simple_app)).0

  refused_by : (o : Option Scanned) (k : ErrorKind) → AgreesWith option_names o words → (k ≡ OutOfMemory → ⊥) → (k ≡ OutOfMemory) ⊎ IsAmong k (fault_of app texts) → o ≡ None
  refused_by None k h other kinds = refl
  refused_by (Some s) k h other kinds = elim kinds [
    | inl e ↦ absurd (other e)
    | inr among ↦ let bad : IsAmong k [] = subst (IsAmong k) (fault_same ∙ h.0) among in absurd bad
  ]

  pub refused : (e : Error) → (kind_of e ≡ OutOfMemory → ⊥) → (is_simple_and_free app ≡ true → HasKind (fault_of app texts) e) → scan option_names None words ≡ None
  refused e other kinds = refused_by (scan option_names None words) (kind_of e) agreed other (kinds simple_app)

pub behind_program : (texts : List Text) → NamesProgram texts → texts ≡ codes "hop" ∷ words_behind texts
behind_program [] h = absurd h
behind_program (word ∷ words) h = ap (λ w. w ∷ words) h.0

pub text_behind : (texts : List Text) → NamesProgram texts → AllText (words_behind texts)
text_behind [] h = absurd h
text_behind (word ∷ words) h = h.1

-- ---- what a getter gives

read_of : (o : Option Row) → unwrap_or (option_map (λ (r : Row). r.values) o) [] ≡ option_map_or (λ (r : Row). r.values) o []
read_of None = refl
read_of (Some r) = refl

texts_of : (r : Option (Bor (List (Bor Text)))) → texts_in r ≡ unwrap_or (option_map (λ s. map (λ v. v.now) s.now) r) []
texts_of None = refl
texts_of (Some texts) = refl

pub values_read : (f : Found) (id : Text) (r : Option (Bor (List (Bor Text)))) → option_map (λ s. map (λ v. v.now) s.now) r ≡ option_map raw_values (matched_of f id) → texts_in r ≡ values_at id (rows_of f)
values_read f id r e = texts_of r ∙ ap (λ (o : Option (List Text)). unwrap_or o []) (e ∙ raw_values-rows f id) ∙ read_of (find (λ (r : Row). bytes_eq r.id id) (rows_of f))
