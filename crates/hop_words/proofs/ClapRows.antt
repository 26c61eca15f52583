-- The values that the rows of a parse have for an id.
use Rattle.std.proofs.Common.{◌≡◌, Bool, true, false, cond, if◌then◌else◌, List, [], ◌∷◌, ◌++◌, None, Some, refl, sym, ap, ◌∙◌}
use Rattle.std.specs.Prelude.{find}
use Rattle.std.specs.Option.{option_map_or}
use Rattle.std.specs.Str.{bytes_eq}
use Rattle.std.proofs.lemmas.Bool.{true≢false}
use Rattle.clap.specs.Walk.{Row, Text, more_values, with_values}
use Rattle.clap.specs.declared.builder.value_parser.Reading.{Reading}
use Rattle.clap.specs.declared.parser.matches.ValueSource.{ValueSource}
use Rattle.hop_words.specs.Clap.{values_at}
use Rattle.hop_words.proofs.ClapRules.{same_text}

-- a row's values, where the row has the id, or those that the others have
abbrev chosen : Bool → List Text → List Text → List Text
chosen b values others = cond b values others

values_first : (id : Text) (r : Row) (rows : List Row) → values_at id (r ∷ rows) ≡ chosen (bytes_eq r.id id) r.values (values_at id rows)
values_first id r rows = at (bytes_eq r.id id)
  where
    at : (b : Bool) → option_map_or (λ (r : Row). r.values) (cond b (Some r) (find (λ (r : Row). bytes_eq r.id id) rows)) [] ≡ chosen b r.values (values_at id rows)
    at true = refl
    at false = refl

grown_here : (b : Bool) (values vs others : List Text) → chosen b (values ++ vs) others ≡ cond b (chosen b values others ++ vs) (chosen b values others)
grown_here true values vs others = refl
grown_here false values vs others = refl

-- the row isn't the one that grows
grown_later : (a b : Bool) (values vs others more : List Text) → (a ≡ true → b ≡ true → true ≡ false) → more ≡ cond b (others ++ vs) others → chosen a values more ≡ cond b (chosen a values others ++ vs) (chosen a values others)
grown_later true true values vs others more apart e = absurd (true≢false (apart refl refl))
grown_later true false values vs others more apart e = refl
grown_later false b values vs others more apart e = e

module _ (how : Reading) (s : ValueSource) (grown : Text) (vs : List Text) (id : Text) where
  new_row : (b : Bool) → cond b vs [] ≡ cond b ([] ++ vs) []
  new_row true = refl
  new_row false = refl

  -- the values of the id grow by these, and those of another stay
  pub values_with : (rows : List Row) → values_at id (with_values grown how s vs rows) ≡ (if bytes_eq grown id then values_at id rows ++ vs else values_at id rows)
  values_with [] = values_first id (record { id = grown; values = vs; count = None; source = Some s; reading = how }) [] ∙ new_row (bytes_eq grown id)
  values_with (r ∷ rows) = at (bytes_eq r.id grown) refl (values_with rows)
    where
      at : (b : Bool) → bytes_eq r.id grown ≡ b
          → values_at id (with_values grown how s vs rows) ≡ (if bytes_eq grown id then values_at id rows ++ vs else values_at id rows)
          → values_at id (cond b (more_values s vs r ++ rows) (r ∷ with_values grown how s vs rows)) ≡ (if bytes_eq grown id then values_at id (r ∷ rows) ++ vs else values_at id (r ∷ rows))
      at true e later =
          let same : bytes_eq r.id id ≡ bytes_eq grown id = ap (λ (t : Text). bytes_eq t id) (same_text r.id grown e) in
          rw (values_first, values_first, same) (grown_here (bytes_eq grown id) r.values vs (values_at id rows))
      at false e later =
          rw (values_first, values_first)
          (grown_later (bytes_eq r.id id) (bytes_eq grown id) r.values vs (values_at id rows) _
          (λ here there. sym (ap (λ (t : Text). bytes_eq r.id t) (same_text grown id there) ∙ here) ∙ e) later)
