-- What clap makes of the words, one after another, is what the scan makes of them.
use Rattle.std.proofs.Common.{◌≡◌, ℕ, Bool, true, false, cond, if◌then◌else◌, List, [], ◌∷◌, ◌++◌, Option, None, Some, map, refl, sym, ap, ap₂, subst, ◌∙◌, codes, append_assoc, arith, zero, suc, ◌<◌}
use Rattle.std.specs.Prelude.{is_some, ◌&&◌, ◌||◌, ◌==◌, option_map, fold, length, filter, option_and_then}
use Rattle.std.specs.Str.{bytes_eq, chars}
use Rattle.std.proofs.lemmas.Bool.{true≢false}
use Rattle.std.proofs.lemmas.Bool.Decides.{nat_tests}
use Rattle.std.proofs.lemmas.List.{append-nil}
use Rattle.std.proofs.lemmas.Str.{IsUtf8-from_ascii, chars-IsAscii, chars-append, encodes-chars}
use Rattle.std.specs.Str.{IsUtf8, IsAscii}
use lib.Utf8.{encodes}
use Rattle.clap.specs.Lexer.{long_of, short_of, short_of_rest}
use Rattle.clap.specs.Kinds.{Kinds, or_else}
use Rattle.clap.specs.Walk.{Held, Rule, Row, Text, Waiting, Walk, idle, option, positional, arg_by_id, reading_by, settled_rows, used, used_by_id, walked}
use Rattle.clap.specs.Faults.{flags_fault, settle_fault, turn_fault, walk_fault, use_fault}
use Rattle.clap.specs.Simple.{Shape, new_shape}
use Rattle.clap.specs.declared.parser.matches.ValueSource.TheVariants.{CommandLine}
use Rattle.hop_words.specs.Clap.{AllText, plain_id, values_at, values_for}
use Rattle.hop_words.specs.Scan.{Scanned, is_end, is_known, scan, scan_option, scan_plain, scan_word, values_given, with_given, with_plain}
use Rattle.hop_words.proofs.ClapRules.{built_option, built_plain, built_rules, id_known, id_plain, long_known, long_unknown, no_short, position_plain, same_text, text_itself}
use Rattle.hop_words.proofs.ClapRows.{values_with}

-- ---- text

dash_ascii : IsAscii (45 ∷ [])
dash_ascii zero = omega arith
dash_ascii (suc i) = omega arith

dash_text : IsUtf8 (45 ∷ [])
dash_text = IsUtf8-from_ascii (45 ∷ []) dash_ascii

-- what follows the dash of a text has a first character
some_character : (flags : Text) (cs : List ℕ) → chars flags ≡ cs → IsUtf8 (45 ∷ flags) → 0 < length flags → 0 < length cs
some_character flags [] e text some =
    let dash : chars (45 ∷ []) ≡ 45 ∷ [] = chars-IsAscii (45 ∷ []) dash_ascii in
    let whole : chars (45 ∷ flags) ≡ 45 ∷ [] = chars-append (45 ∷ []) flags dash_text ∙ ap₂ (λ (a b : List ℕ). a ++ b) dash e in
    let one : 45 ∷ [] ≡ 45 ∷ flags = sym (ap encodes (sym dash) ∙ encodes-chars (45 ∷ []) dash_text) ∙ ap encodes (sym whole) ∙ encodes-chars (45 ∷ flags) text in
    absurd (omega (arith, ap {B = ℕ} length one, some))
some_character flags (c ∷ cs) e text some = omega arith

-- ---- kinds

first_kinds : (a b : Kinds) → or_else a b ≡ [] → a ≡ []
first_kinds [] b e = refl
first_kinds (k ∷ ks) b e = cc

then_kinds : (a b : Kinds) → or_else a b ≡ [] → b ≡ []
then_kinds [] b e = e
then_kinds (k ∷ ks) b e = cc

no_kinds : (a b : Kinds) → a ≡ [] → b ≡ [] → or_else a b ≡ []
no_kinds a b e f = rw (e, f) refl

-- ---- what was read so far

module _ (names : List Text) where
  abbrev pub rules : List Rule
  rules = built_rules names

  -- the built command, but for what no parse reads
  abbrev pub shape : Shape
  shape = record (new_shape (codes "hop")) {
    rules = rules;
    disable_help_flag = true;
    disable_help_subcommand = true;
    is_built = true;
  }

  -- the rows when what is pending is used
  abbrev pub rows_in : Held → List Row
  rows_in h = settled_rows rules h.pending h.rows

  -- it can be used
  abbrev pub Settles : Held → Type 0
  Settles h = settle_fault rules false h ≡ []

  -- the walk before a word, where an option waits for its value or doesn't
  abbrev pub plainly : Held → Waiting → Walk
  plainly h waiting = record { held = h; waiting = waiting; position = 1; is_trailing = false; stopped = None }

  abbrev pub trailing : Held → Waiting → Walk
  trailing h waiting = record { held = h; waiting = waiting; position = 1; is_trailing = true; stopped = None }

  -- these rows, and what is pending
  abbrev pub holding : List Row → Option (Text × List Text) → Held
  holding rows pending = record { rows = rows; pending = pending; skip = 0 }

  -- the faults of the words from here on
  abbrev pub faults : Walk → List Text → Kinds
  faults w words = or_else (walk_fault shape [] w words) (settle_fault rules false (fold (walked rules []) w words).held)

  abbrev pub end_rows : Walk → List Text → List Row
  end_rows w words = rows_in (fold (walked rules []) w words).held

  -- clap refuses the words exactly where the scan does, and else both find the same
  abbrev pub Agrees : Option Scanned → Walk → List Text → Type 0
  Agrees None w words = faults w words ≡ [] → ⊥
  Agrees (Some s) w words = (faults w words ≡ []) × ((id : Text) → values_at id (end_rows w words) ≡ values_at id (rows_in w.held) ++ values_for id s)

  -- ---- one word

  refused_here : (w : Walk) (word : Text) (words : List Text) → (turn_fault shape [] w word ≡ [] → ⊥) → Agrees None w (word ∷ words)
  unfolding walk_fault
  refused_here w word words fault = λ e. fault (first_kinds _ _ (first_kinds _ _ e))

  -- the faults of a word, and of those after it
  abbrev faults_from : Walk → Text → Walk → List Text → Kinds
  faults_from w word after words =
      or_else (or_else (turn_fault shape [] w word) (walk_fault shape [] after words)) (settle_fault rules false (fold (walked rules []) after words).held)

  refused_later : (w after : Walk) (word : Text) (words : List Text) → walked rules [] w word ≡ after → Agrees None after words → Agrees None w (word ∷ words)
  unfolding walk_fault
  refused_later w after word words e later = λ f.
      let g : faults_from w word after words ≡ [] = subst (λ (v : Walk). faults_from w word v words ≡ []) e f in
      later (no_kinds _ _ (then_kinds (turn_fault shape [] w word) _ (first_kinds _ _ g)) (then_kinds (or_else (turn_fault shape [] w word) (walk_fault shape [] after words)) _ g))

  -- the word adds these values
  abbrev Adds : Walk → Walk → (Scanned → Scanned) → Type 0
  Adds w after f = (id : Text) (s : Scanned) → values_at id (rows_in after.held) ++ values_for id s ≡ values_at id (rows_in w.held) ++ values_for id (f s)

  goes_on : (o : Option Scanned) (f : Scanned → Scanned) (w after : Walk) (word : Text) (words : List Text)
      → turn_fault shape [] w word ≡ [] → walked rules [] w word ≡ after → Adds w after f
      → Agrees o after words → Agrees (option_map f o) w (word ∷ words)
  unfolding walk_fault
  goes_on None f w after word words none e adds later = refused_later w after word words e later
  goes_on (Some s) f w after word words none e adds later = (
    let g : faults_from w word after words ≡ [] = rw none later.0 in
        subst (λ (v : Walk). faults_from w word v words ≡ []) (sym e) g,
    λ id. subst (λ (v : Walk). values_at id (rows_in (fold (walked rules []) v words).held) ≡ values_at id (rows_in w.held) ++ values_for id (f s)) (sym e) (later.1 id ∙ adds id s),
  )

  -- a word that adds nothing
  goes_as : (o : Option Scanned) (w after : Walk) (word : Text) (words : List Text)
      → turn_fault shape [] w word ≡ [] → walked rules [] w word ≡ after → ((id : Text) → values_at id (rows_in after.held) ≡ values_at id (rows_in w.held))
      → Agrees o after words → Agrees o w (word ∷ words)
  goes_as None w after word words none e same later = refused_later w after word words e later
  goes_as (Some s) w after word words none e same later = goes_on (Some s) (λ t. t) w after word words none e (λ id t. ap (λ (vs : List Text). vs ++ values_for id t) (same id)) later

  -- ---- the states between two words

  and_false : (b : Bool) → (b && false) ≡ false
  and_false true = refl
  and_false false = refl

  settles_taken : (id word : Text) (rows : List Row) (a : Rule) → arg_by_id rules id ≡ Some a → (use_fault false a (word ∷ []) rows ≡ []) → Settles (holding rows (Some (id, word ∷ [])))
  settles_taken id word rows a found none = rw found none

  rows_taken : (id word : Text) (rows : List Row) (a : Rule) → arg_by_id rules id ≡ Some a → rows_in (holding rows (Some (id, word ∷ []))) ≡ used a (word ∷ []) rows
  rows_taken id word rows a found = rw found refl

  -- a word for the positional
  abbrev plain_taken : Text → Held → Held
  plain_taken word h = holding (rows_in h) (Some (plain_id, word ∷ []))

  to_plain : (rows : List Row) (pending : Option (Text × List Text)) (waiting : Waiting) (word : Text)
      → walked rules [] (trailing (holding rows pending) waiting) word ≡ trailing (plain_taken word (holding rows pending)) positional
  unfolding walked
  to_plain rows pending waiting word = rw (position_plain names, and_false) refl

  turn_trailing : (rows : List Row) (pending : Option (Text × List Text)) (waiting : Waiting) (word : Text) → Settles (holding rows pending) → turn_fault shape [] (trailing (holding rows pending) waiting) word ≡ []
  turn_trailing rows pending waiting word ok = rw (position_plain names, and_false) ok

  module _ (fresh : is_known names plain_id ≡ false) where
    plain_settles : (word : Text) (rows : List Row) → Settles (holding rows (Some (plain_id, word ∷ [])))
    plain_settles word rows = settles_taken plain_id word rows built_plain (id_plain names fresh) refl

    option_settles : (name word : Text) (rows : List Row) → is_known names name ≡ true → Settles (holding rows (Some (name, word ∷ [])))
    option_settles name word rows known = settles_taken name word rows (built_option name) (id_known names name known) refl

    -- the plain words' id is no option's name
    apart : (name id : Text) → is_known names name ≡ true → bytes_eq plain_id id ≡ true → bytes_eq name id ≡ true → true ≡ false
    apart name id known p b =
        let e : name ≡ plain_id = same_text name id b ∙ sym (same_text plain_id id p) in
        sym known ∙ ap (is_known names) e ∙ fresh

    plain_grown : (b : Bool) (before after given : List Text) (word : Text) → (if b then before ++ word ∷ [] else before) ++ (if b then after else given) ≡ before ++ (if b then word ∷ after else given)
    plain_grown true before after given word = append_assoc before (word ∷ []) after
    plain_grown false before after given word = refl

    plain_adds : (before after : Walk) (word : Text) → rows_in after.held ≡ rows_in (holding (rows_in before.held) (Some (plain_id, word ∷ []))) → Adds before after (with_plain word)
    plain_adds before after word f id s =
        ap (λ (r : List Row). values_at id r ++ values_for id s) (f ∙ rows_taken plain_id word (rows_in before.held) built_plain (id_plain names fresh))
        ∙ ap (λ (vs : List Text). vs ++ values_for id s) (values_with (reading_by built_plain) CommandLine plain_id (word ∷ []) id (rows_in before.held))
        ∙ plain_grown (bytes_eq plain_id id) (values_at id (rows_in before.held)) s.plain (values_given id s) word

    given_grown : (p b : Bool) (name word : Text) (before plain : List Text) (given : List (List ℕ × List ℕ)) → (p ≡ true → b ≡ true → true ≡ false)
        → (if b then before ++ word ∷ [] else before) ++ (if p then plain else map (λ g. g.1) given) ≡ before ++ (if p then plain else map (λ g. g.1) (cond b ((name, word) ∷ given) given))
    given_grown true true name word before plain given h = absurd (true≢false (h refl refl))
    given_grown true false name word before plain given h = refl
    given_grown false true name word before plain given h = append_assoc before (word ∷ []) (map (λ g. g.1) given)
    given_grown false false name word before plain given h = refl

    given_adds : (before after : Walk) (rows : List Row) (name word : Text) → is_known names name ≡ true
        → ((id : Text) → values_at id (rows_in before.held) ≡ values_at id rows) → rows_in after.held ≡ used (built_option name) (word ∷ []) rows → Adds before after (with_given name word)
    given_adds before after rows name word known same f id s =
        ap (λ (r : List Row). values_at id r ++ values_for id s) f
        ∙ ap (λ (vs : List Text). vs ++ values_for id s) (values_with (reading_by (built_option name)) CommandLine name (word ∷ []) id rows)
        ∙ given_grown (bytes_eq plain_id id) (bytes_eq name id) name word (values_at id rows) s.plain (filter (λ g. bytes_eq g.0 id) s.given) (apart name id known)
        ∙ ap (λ (vs : List Text). vs ++ values_for id (with_given name word s)) (sym (same id))

    -- an option that waits has added nothing yet
    waits_same : (name : Text) (rows : List Row) → is_known names name ≡ true → (id : Text) → values_at id (rows_in (holding rows (Some (name, [])))) ≡ values_at id rows
    waits_same name rows known id =
        ap (λ (a : Option Rule). values_at id (used_by_id a [] rows)) (id_known names name known)
        ∙ values_with (reading_by (built_option name)) CommandLine name [] id rows
        ∙ nothing (bytes_eq name id) (values_at id rows)
      where
        nothing : (b : Bool) (vs : List Text) → (if b then vs ++ [] else vs) ≡ vs
        nothing true vs = append-nil vs
        nothing false vs = refl

    -- ---- after `--`

    sim_trailing : (words : List Text) (rows : List Row) (pending : Option (Text × List Text)) (waiting : Waiting) → Settles (holding rows pending)
        → Agrees (Some (record { plain = words; given = [] })) (trailing (holding rows pending) waiting) words
    unfolding walk_fault
    sim_trailing [] rows pending waiting ok = (ok, λ id. sym (nothing_more (bytes_eq plain_id id) (values_at id (rows_in (holding rows pending)))))
      where
        nothing_more : (b : Bool) (vs : List Text) → vs ++ (if b then [] else []) ≡ vs
        nothing_more true vs = append-nil vs
        nothing_more false vs = append-nil vs
    sim_trailing (word ∷ words) rows pending waiting ok =
        goes_on (Some (record { plain = words; given = [] })) (with_plain word) (trailing (holding rows pending) waiting) (trailing (plain_taken word (holding rows pending)) positional) word words
        (turn_trailing rows pending waiting word ok) (to_plain rows pending waiting word)
        (plain_adds (trailing (holding rows pending) waiting) (trailing (plain_taken word (holding rows pending)) positional) word refl)
        (sim_trailing words (rows_in (holding rows pending)) (Some (plain_id, word ∷ [])) positional (plain_settles word (rows_in (holding rows pending))))

    -- an option that waits can't be used
    unused : (name : Text) (rows : List Row) → is_known names name ≡ true → Settles (holding rows (Some (name, []))) → ⊥
    unused name rows known e = let f = rw (id_known names name known) at e in cc

    bad_trailing : (words : List Text) (name : Text) (rows : List Row) (waiting : Waiting) → is_known names name ≡ true → Agrees None (trailing (holding rows (Some (name, []))) waiting) words
    unfolding walk_fault
    bad_trailing [] name rows waiting known = λ e. unused name rows known e
    bad_trailing (word ∷ words) name rows waiting known =
        refused_here (trailing (holding rows (Some (name, []))) waiting) word words (λ e. unused name rows known (rw (position_plain names, and_false) at e))

    -- ---- a word before which no option waits

    -- a positional may wait for more values, which changes nothing
    abbrev pub at_rest : Bool → Waiting
    at_rest false = idle
    at_rest true = positional

    end_turn : (b : Bool) (h : Held) (word : Text) → is_end word ≡ true → turn_fault shape [] (plainly h (at_rest b)) word ≡ []
    end_turn false h word e = rw e refl
    end_turn true h word e = rw e refl

    end_walk : (b : Bool) (h : Held) (word : Text) → is_end word ≡ true → walked rules [] (plainly h (at_rest b)) word ≡ trailing h (at_rest b)
    unfolding walked
    end_walk false h word e = rw e refl
    end_walk true h word e = rw e refl

    given_turn : (b : Bool) (rows : List Row) (pending : Option (Text × List Text)) (word name value : Text) → Settles (holding rows pending)
        → is_end word ≡ false → long_of word ≡ Some (name, Some value) → is_known names name ≡ true
        → turn_fault shape [] (plainly (holding rows pending) (at_rest b)) word ≡ []
    given_turn false rows pending word name value ok e l known = rw (e, l, long_known names name known, ok) refl
    given_turn true rows pending word name value ok e l known = rw (e, l, long_known names name known, ok) refl

    given_walk : (b : Bool) (rows : List Row) (pending : Option (Text × List Text)) (word name value : Text)
        → is_end word ≡ false → long_of word ≡ Some (name, Some value) → is_known names name ≡ true
        → walked rules [] (plainly (holding rows pending) (at_rest b)) word ≡ plainly (holding (used (built_option name) (value ∷ []) (rows_in (holding rows pending))) None) idle
    unfolding walked
    given_walk false rows pending word name value e l known = rw (e, l, long_known names name known) refl
    given_walk true rows pending word name value e l known = rw (e, l, long_known names name known) refl

    waits_turn : (b : Bool) (rows : List Row) (pending : Option (Text × List Text)) (word name : Text) → Settles (holding rows pending)
        → is_end word ≡ false → long_of word ≡ Some (name, None) → is_known names name ≡ true
        → turn_fault shape [] (plainly (holding rows pending) (at_rest b)) word ≡ []
    waits_turn false rows pending word name ok e l known = rw (e, l, long_known names name known, ok) refl
    waits_turn true rows pending word name ok e l known = rw (e, l, long_known names name known, ok) refl

    waits_walk : (b : Bool) (rows : List Row) (pending : Option (Text × List Text)) (word name : Text)
        → is_end word ≡ false → long_of word ≡ Some (name, None) → is_known names name ≡ true
        → walked rules [] (plainly (holding rows pending) (at_rest b)) word ≡ plainly (holding (rows_in (holding rows pending)) (Some (name, []))) (option name)
    unfolding walked
    waits_walk false rows pending word name e l known = rw (e, l, long_known names name known) refl
    waits_walk true rows pending word name e l known = rw (e, l, long_known names name known) refl

    unknown_turn : (b : Bool) (h : Held) (word name : Text) (value : Option Text)
        → is_end word ≡ false → long_of word ≡ Some (name, value) → is_known names name ≡ false
        → turn_fault shape [] (plainly h (at_rest b)) word ≡ [] → ⊥
    unknown_turn false h word name value e l unknown f = let g = rw (e, l, long_unknown names name unknown) at f in cc
    unknown_turn true h word name value e l unknown f = let g = rw (e, l, long_unknown names name unknown) at f in cc

    plain_turn : (b : Bool) (rows : List Row) (pending : Option (Text × List Text)) (word : Text) → Settles (holding rows pending)
        → is_end word ≡ false → long_of word ≡ None → short_of word ≡ None
        → turn_fault shape [] (plainly (holding rows pending) (at_rest b)) word ≡ []
    plain_turn false rows pending word ok e l s = rw (e, l, s, position_plain names, and_false, ok) refl
    plain_turn true rows pending word ok e l s = rw (e, l, s, position_plain names, and_false, ok) refl

    plain_walk : (b : Bool) (rows : List Row) (pending : Option (Text × List Text)) (word : Text)
        → is_end word ≡ false → long_of word ≡ None → short_of word ≡ None
        → walked rules [] (plainly (holding rows pending) (at_rest b)) word ≡ plainly (plain_taken word (holding rows pending)) positional
    unfolding walked
    plain_walk false rows pending word e l s = rw (e, l, s, position_plain names, and_false) refl
    plain_walk true rows pending word e l s = rw (e, l, s, position_plain names, and_false) refl

    -- ---- a word of flags

    -- a short flag is none of the options
    no_flag : (flags : Text) (h : Held) (k : ℕ) (cs : List ℕ) → length flags ≡ k → chars flags ≡ cs → 0 < k → 0 < length cs → flags_fault rules false k flags 0 h ≡ [] → ⊥
    unfolding flags_fault
    no_flag flags h zero cs n e some first f = absurd (omega arith)
    no_flag flags h (suc k) [] n e some first f = absurd (omega arith)
    no_flag flags h (suc k) (c ∷ cs) n e some first f = let g = rw (e, no_short names c) at f in cc

    -- the first byte of a word of flags, and what follows it
    dash_number : (b : ℕ) → (b == 45) ≡ true → b ≡ 45
    dash_number b e = grind (arith, nat_tests)

    rest_is : (rest flags : Text) → short_of_rest rest ≡ Some flags → (rest ≡ flags) × (0 < length flags)
    rest_is [] flags e = cc
    rest_is (c ∷ cs) flags e = at (c == 45) e
      where
        at : (d : Bool) → (if d then None else Some (c ∷ cs)) ≡ Some flags → (c ∷ cs ≡ flags) × (0 < length flags)
        at true e = cc
        at false e = let same : c ∷ cs ≡ flags = cc in (same, omega (arith, ap {B = ℕ} length same))

    dash_first : (word flags : Text) → short_of word ≡ Some flags → (word ≡ 45 ∷ flags) × (0 < length flags)
    dash_first [] flags e = cc
    dash_first (b ∷ rest) flags e = at (b == 45) refl e
      where
        at : (d : Bool) → (b == 45) ≡ d → option_and_then short_of_rest (if d then Some rest else None) ≡ Some flags → (b ∷ rest ≡ 45 ∷ flags) × (0 < length flags)
        at true first e = let r = rest_is rest flags e in (ap₂ (λ x xs. x ∷ xs) (dash_number b first) r.0, r.1)
        at false first e = cc

    short_fault : (flags : Text) (h : Held) → IsUtf8 (45 ∷ flags) → 0 < length flags → flags_fault rules false (length flags) flags 0 h ≡ [] → ⊥
    short_fault flags h text some f = no_flag flags h (length flags) (chars flags) refl refl some (some_character flags (chars flags) refl text some) f

    short_turn : (b : Bool) (rows : List Row) (pending : Option (Text × List Text)) (word flags : Text) → IsUtf8 word → is_end word ≡ false → long_of word ≡ None → short_of word ≡ Some flags
        → turn_fault shape [] (plainly (holding rows pending) (at_rest b)) word ≡ [] → ⊥
    short_turn false rows pending word flags text e l s f =
        let d = dash_first word flags s in
        short_fault flags (holding rows pending) (subst IsUtf8 d.0 text) d.1 (first_kinds _ _ (rw (e, l, s) at f))
    short_turn true rows pending word flags text e l s f =
        let d = dash_first word flags s in
        short_fault flags (holding rows pending) (subst IsUtf8 d.0 text) d.1 (first_kinds _ _ (rw (e, l, s) at f))

    -- ---- a word that an option waits for

    long_waits : (rows : List Row) (name word other : Text) (value : Option Text) (k : Bool) → is_known names other ≡ k → is_known names name ≡ true → is_end word ≡ false → long_of word ≡ Some (other, value)
        → turn_fault shape [] (plainly (holding rows (Some (name, []))) (option name)) word ≡ [] → ⊥
    long_waits rows name word other value false k known e l f = let g = rw (e, l, long_unknown names other k) at f in cc
    long_waits rows name word other (Some v) true k known e l f = unused name rows known (first_kinds _ _ (first_kinds _ _ (rw (e, l, long_known names other k) at f)))
    long_waits rows name word other None true k known e l f = unused name rows known (first_kinds _ _ (rw (e, l, long_known names other k) at f))

    short_waits : (rows : List Row) (name word flags : Text) → IsUtf8 word → is_end word ≡ false → long_of word ≡ None → short_of word ≡ Some flags
        → turn_fault shape [] (plainly (holding rows (Some (name, []))) (option name)) word ≡ [] → ⊥
    short_waits rows name word flags text e l s f =
        let d = dash_first word flags s in
        short_fault flags (holding rows (Some (name, []))) (subst IsUtf8 d.0 text) d.1 (first_kinds _ _ (rw (e, l, s) at f))

    value_turn : (rows : List Row) (name word : Text) → is_known names name ≡ true → is_end word ≡ false → long_of word ≡ None → short_of word ≡ None
        → turn_fault shape [] (plainly (holding rows (Some (name, []))) (option name)) word ≡ []
    value_turn rows name word known e l s = rw (e, l, s) refl

    value_walk : (rows : List Row) (name word : Text) → is_known names name ≡ true → is_end word ≡ false → long_of word ≡ None → short_of word ≡ None
        → walked rules [] (plainly (holding rows (Some (name, []))) (option name)) word ≡ plainly (holding rows (Some (name, word ∷ []))) idle
    unfolding walked
    value_walk rows name word known e l s = rw (e, l, s, id_known names name known, text_itself name) refl

    end_waits : (name : Text) (rows : List Row) (word : Text) (words : List Text) → is_known names name ≡ true → is_end word ≡ true → Agrees None (plainly (holding rows (Some (name, []))) (option name)) (word ∷ words)
    unfolding walked
    end_waits name rows word words known e =
        refused_later (plainly (holding rows (Some (name, []))) (option name)) (trailing (holding rows (Some (name, []))) (option name)) word words (rw e refl) (bad_trailing words name rows (option name) known)

    nothing_more : (b : Bool) (vs : List Text) → vs ++ (if b then [] else []) ≡ vs
    nothing_more true vs = append-nil vs
    nothing_more false vs = append-nil vs

    rest_ends : (b : Bool) (rows : List Row) (pending : Option (Text × List Text)) → Settles (holding rows pending) → Agrees (Some (record { plain = []; given = [] })) (plainly (holding rows pending) (at_rest b)) []
    unfolding walk_fault
    rest_ends b rows pending ok = (ok, λ id. sym (nothing_more (bytes_eq plain_id id) (values_at id (rows_in (holding rows pending)))))

    -- ---- all words

    abbrev AtRest : List Text → Type 0
    AtRest words = (b : Bool) (rows : List Row) (pending : Option (Text × List Text)) → Settles (holding rows pending) → Agrees (scan names None words) (plainly (holding rows pending) (at_rest b)) words

    abbrev Waits : List Text → Type 0
    Waits words = (name : Text) (rows : List Row) → is_known names name ≡ true → Agrees (scan names (Some name) words) (plainly (holding rows (Some (name, []))) (option name)) words

    option_word : (b : Bool) (rows : List Row) (pending : Option (Text × List Text)) (word : Text) (words : List Text) (ok : Settles (holding rows pending)) → is_end word ≡ false
        → (name : Text) (value : Option Text) → long_of word ≡ Some (name, value) → AtRest words → Waits words → (k : Bool) → is_known names name ≡ k
        → Agrees (scan_option k name value (scan names None words) (scan names (Some name) words)) (plainly (holding rows pending) (at_rest b)) (word ∷ words)
    option_word b rows pending word words ok e name value l rest waits false k = refused_here (plainly (holding rows pending) (at_rest b)) word words (unknown_turn b (holding rows pending) word name value e l k)
    option_word b rows pending word words ok e name (Some value) l rest waits true k =
        goes_on (scan names None words) (with_given name value) (plainly (holding rows pending) (at_rest b)) (plainly (holding (used (built_option name) (value ∷ []) (rows_in (holding rows pending))) None) idle) word words
        (given_turn b rows pending word name value ok e l k) (given_walk b rows pending word name value e l k)
        (given_adds (plainly (holding rows pending) (at_rest b)) (plainly (holding (used (built_option name) (value ∷ []) (rows_in (holding rows pending))) None) idle) (rows_in (holding rows pending)) name value k (λ id. refl) refl)
        (rest false (used (built_option name) (value ∷ []) (rows_in (holding rows pending))) None refl)
    option_word b rows pending word words ok e name None l rest waits true k =
        goes_as (scan names (Some name) words) (plainly (holding rows pending) (at_rest b)) (plainly (holding (rows_in (holding rows pending)) (Some (name, []))) (option name)) word words
        (waits_turn b rows pending word name ok e l k) (waits_walk b rows pending word name e l k) (waits_same name (rows_in (holding rows pending)) k)
        (waits name (rows_in (holding rows pending)) k)

    plain_or_flags : (b : Bool) (rows : List Row) (pending : Option (Text × List Text)) (word : Text) (words : List Text) (ok : Settles (holding rows pending)) → IsUtf8 word → is_end word ≡ false → long_of word ≡ None
        → AtRest words → (flags : Option Text) → short_of word ≡ flags
        → Agrees (scan_plain flags word (scan names None words)) (plainly (holding rows pending) (at_rest b)) (word ∷ words)
    plain_or_flags b rows pending word words ok text e l rest (Some flags) s = refused_here (plainly (holding rows pending) (at_rest b)) word words (short_turn b rows pending word flags text e l s)
    plain_or_flags b rows pending word words ok text e l rest None s =
        goes_on (scan names None words) (with_plain word) (plainly (holding rows pending) (at_rest b)) (plainly (plain_taken word (holding rows pending)) positional) word words
        (plain_turn b rows pending word ok e l s) (plain_walk b rows pending word e l s)
        (plain_adds (plainly (holding rows pending) (at_rest b)) (plainly (plain_taken word (holding rows pending)) positional) word refl)
        (rest true (rows_in (holding rows pending)) (Some (plain_id, word ∷ [])) (plain_settles word (rows_in (holding rows pending))))

    rest_word : (b : Bool) (rows : List Row) (pending : Option (Text × List Text)) (word : Text) (words : List Text) → Settles (holding rows pending) → IsUtf8 word → AtRest words → Waits words
        → (e : Bool) → is_end word ≡ e → (l : Option (Text × Option Text)) → long_of word ≡ l
        → Agrees (if e then Some (record { plain = words; given = [] }) else scan_word names l word (scan names None words) (λ name. scan names (Some name) words)) (plainly (holding rows pending) (at_rest b)) (word ∷ words)
    rest_word b rows pending word words ok text rest waits true e l is =
        goes_as (Some (record { plain = words; given = [] })) (plainly (holding rows pending) (at_rest b)) (trailing (holding rows pending) (at_rest b)) word words
        (end_turn b (holding rows pending) word e) (end_walk b (holding rows pending) word e) (λ id. refl) (sim_trailing words rows pending (at_rest b) ok)
    rest_word b rows pending word words ok text rest waits false e (Some (name, value)) is = option_word b rows pending word words ok e name value is rest waits (is_known names name) refl
    rest_word b rows pending word words ok text rest waits false e None is = plain_or_flags b rows pending word words ok text e is rest (short_of word) refl

    waited_word : (name : Text) (rows : List Row) (word : Text) (words : List Text) → is_known names name ≡ true → IsUtf8 word → AtRest words
        → (l : Option (Text × Option Text)) → long_of word ≡ l → (s : Option Text) → short_of word ≡ s → (e : Bool) → is_end word ≡ e
        → Agrees (if is_some l || is_some s || e then None else option_map (with_given name word) (scan names None words)) (plainly (holding rows (Some (name, []))) (option name)) (word ∷ words)
    waited_word name rows word words known text rest (Some (other, value)) l s is_s true e = end_waits name rows word words known e
    waited_word name rows word words known text rest (Some (other, value)) l s is_s false e = refused_here (plainly (holding rows (Some (name, []))) (option name)) word words (long_waits rows name word other value (is_known names other) refl known e l)
    waited_word name rows word words known text rest None l (Some flags) s true e = end_waits name rows word words known e
    waited_word name rows word words known text rest None l (Some flags) s false e = refused_here (plainly (holding rows (Some (name, []))) (option name)) word words (short_waits rows name word flags text e l s)
    waited_word name rows word words known text rest None l None s true e = end_waits name rows word words known e
    waited_word name rows word words known text rest None l None s false e =
        goes_on (scan names None words) (with_given name word) (plainly (holding rows (Some (name, []))) (option name)) (plainly (holding rows (Some (name, word ∷ []))) idle) word words
        (value_turn rows name word known e l s) (value_walk rows name word known e l s)
        (given_adds (plainly (holding rows (Some (name, []))) (option name)) (plainly (holding rows (Some (name, word ∷ []))) idle) rows name word known (waits_same name rows known) (rows_taken name word rows (built_option name) (id_known names name known)))
        (rest false rows (Some (name, word ∷ [])) (option_settles name word rows known))

    pub both_ways : (words : List Text) → AllText words → AtRest words × Waits words
    unfolding walk_fault
    both_ways [] text = (
      λ b rows pending ok. rest_ends b rows pending ok,
      λ name rows known. (λ e. unused name rows known e),
    )
    both_ways (word ∷ words) text =
        let later = both_ways words text.1 in (
          λ b rows pending ok. rest_word b rows pending word words ok text.0 later.0 later.1 (is_end word) refl (long_of word) refl,
          λ name rows known. waited_word name rows word words known text.0 later.0 (long_of word) refl (short_of word) refl (is_end word) refl,
        )
