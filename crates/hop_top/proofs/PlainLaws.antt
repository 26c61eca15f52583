-- What words ask for has no backups, and its workers have folders.
use Rattle.std.proofs.Common.{◌≡◌, ℕ, ◌≤◌, ◌&&◌, Bool, true, false, if◌then◌else◌, List, [], ◌∷◌, Option, None, Some, refl, sym, ap, subst, arith}
use Rattle.std.specs.Prelude.{nat_le}
use Rattle.std.specs.Str.Parse.{digits_value}
use Rattle.std.proofs.lemmas.Bool.{leb-true}
use Rattle.std.specs.Option.{option_and_then}
use Rattle.std.proofs.lemmas.Option.{same_Some}
use Rattle.hop_base.specs.Run.{RunSettings}
use Rattle.hop_words.specs.Marks.{marks_in, yes_or_no_in}
use Rattle.hop_words.specs.Names.{name_in}
use Rattle.hop_words.specs.Numbers.{is_number, number_in, within}
use Rattle.hop_words.specs.Options.{Asked, AskedOptions, Given, asked, asked_by, command_asked, has_all, numbers_asked, options_asked, options_with, settings_asked, takes_all, with_number}
use Rattle.hop_words.specs.Scan.{scan, values_given}
use Rattle.hop_words.specs.Table.{NumberOption, attempts_option, lane_option, marks_option, number_in_row, option_names, reducers_option, script_option, spill_option, split_option, tentative_option, turns_option, workers_option}

-- no backups, and at most 8 workers
pub record IsPlain (s : RunSettings) : Type 0 where
  pub backup : s.backup ≡ false
  pub workers : s.workers ≤ 8

module _ {A B : Type 0} where
  and-then : (f : A → Option B) (o : Option A) (b : B) → option_and_then f o ≡ Some b → (a : A) × (o ≡ Some a) × (f a ≡ Some b)
  and-then f None b e = cc
  and-then f (Some a) b e = (a, refl, e)

if-some : {A : Type 0} (t : Bool) (o : Option A) (b : A) → (if t then o else None) ≡ Some b → o ≡ Some b
if-some true o b e = e
if-some false o b e = cc

-- the number of an option is in its range
both : (a b : Bool) → (a && b) ≡ true → (a ≡ true) × (b ≡ true)
both true b e = (refl, e)
both false b e = cc

in-range : (t : Bool) (number n most : ℕ) → (if t then Some number else None) ≡ Some n → (t ≡ true → number ≤ most) → n ≤ most
in-range true number n most e l = let same = same_Some number n e in let k = l refl in omega (arith, same, k)
in-range false number n most e l = cc

up-to : (least most default : ℕ) (values : List (List ℕ)) (n : ℕ) → default ≤ most → number_in least most default values ≡ Some n → n ≤ most
up-to least most default [] n d e = let same = same_Some default n e in omega (arith, same, d)
up-to least most default (value ∷ []) n d e =
    let within-e = if-some (is_number value) (within least most (digits_value 10 value)) n e in
    in-range (nat_le least (digits_value 10 value) && nat_le (digits_value 10 value) most) (digits_value 10 value) n most within-e
    (λ t. leb-true (digits_value 10 value) most (both (nat_le least (digits_value 10 value)) (nat_le (digits_value 10 value) most) t).1)
up-to least most default (value ∷ other ∷ values) n d e = cc

with-number : (given : Given) (row : NumberOption) (next : ℕ → Option RunSettings) (s : RunSettings) → with_number given row next ≡ Some s → (n : ℕ) × (number_in_row row (given row.name) ≡ Some n) × (next n ≡ Some s)
with-number given row next s e = and-then next (number_in_row row (given row.name)) s e

numbers-plain : (given : Given) (tentative : Bool) (marks : List ℕ) (s : RunSettings) → numbers_asked given tentative marks ≡ Some s → IsPlain s
numbers-plain given tentative marks s e =
    let a = with-number given reducers_option _ s e in
    let b = with-number given split_option _ s a.2 in
    let c = with-number given spill_option _ s b.2 in
    let d = with-number given workers_option _ s c.2 in
    let f = with-number given attempts_option _ s d.2 in
    let g = with-number given lane_option _ s f.2 in
    let is = same_Some _ s g.2 in
    let few = up-to 1 8 2 (given workers_option.name) d.0 (omega arith) d.1 in
    let workers : d.0 ≡ s.workers = ap (λ (t : RunSettings). t.workers) is in
    record { backup = sym (ap (λ (t : RunSettings). t.backup) is); workers = omega (arith, few, workers) }

settings-plain : (given : Given) (s : RunSettings) → settings_asked given ≡ Some s → IsPlain s
settings-plain given s e =
    let a = and-then (λ tentative. option_and_then (λ marks. numbers_asked given tentative marks) (marks_in (given marks_option))) (yes_or_no_in true (given tentative_option)) s e in
    let b = and-then (λ marks. numbers_asked given a.0 marks) (marks_in (given marks_option)) s a.2 in
    numbers-plain given a.0 b.0 s b.2

with-settings : (command : Asked) (s : RunSettings) (script turns : Option (Option (List ℕ))) (o : AskedOptions) → options_with command s script turns ≡ Some o → s ≡ o.settings
with-settings command s (Some script) (Some turns) o e = ap (λ (k : AskedOptions). k.settings) (same_Some _ o (if-some (has_all command turns) _ o e))
with-settings command s (Some script) None o e = cc
with-settings command s None turns o e = cc

options-plain : (given : Given) (command : Asked) (o : AskedOptions) → options_asked given command ≡ Some o → IsPlain o.settings
options-plain given command o e =
    let taken = if-some (takes_all command given) _ o e in
    let a = and-then (λ settings. options_with command settings (name_in (given script_option)) (name_in (given turns_option))) (settings_asked given) o taken in
    subst IsPlain (with-settings command a.0 (name_in (given script_option)) (name_in (given turns_option)) o a.2) (settings-plain given a.0 a.1)

pub asked-plain : (words : List (List ℕ)) (o : AskedOptions) → asked words ≡ Some o → IsPlain o.settings
asked-plain words o e =
    let scanned = and-then asked_by (scan option_names None words) o e in
    let s = scanned.0 in
    let command = and-then (options_asked (λ name. values_given name s)) (command_asked (λ name. values_given name s) s.plain) o scanned.2 in
    options-plain (λ name. values_given name s) command.0 o command.2
