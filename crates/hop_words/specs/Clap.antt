-- The one clap command, and what a parse by it finds.
use Rattle.std.specs.Prelude.{◌≡◌, List, [], ◌∷◌, ◌++◌, map, true, Option, None, Some, codes, if◌then◌else◌, find}
use Rattle.std.specs.Option.{option_map_or}
use Rattle.std.specs.Str.{IsUtf8, bytes_eq}
use Rattle.std.specs.Borrow.{Bor}
use Rattle.clap.specs.Walk.{Row, Rule, Text, rows_of}
use Rattle.clap.specs.Matches.{found_of}
use Rattle.clap.specs.Simple.{App, new_app, new_rule, on_top}
use Rattle.clap.specs.declared.builder.action.ArgAction.TheVariants.{Append}
use Rattle.clap.specs.declared.parser.matches.ArgMatches.{ArgMatches}
use Rattle.hop_words.specs.Table.{option_names}
use Rattle.hop_words.specs.Scan.{Scanned, scan, values_given}

-- an option that may be given with a value each time
abbrev pub option_rule : Text → Rule
option_rule name = record (new_rule name) { long = Some name; action = Some Append }

-- the id of the plain words, which is no option's name
abbrev pub plain_id : Text
plain_id = codes "--"

abbrev pub plain_rule : Rule
plain_rule = record (new_rule plain_id) { action = Some Append }

-- a command without arguments
abbrev pub hop_bare : App
hop_bare = on_top (λ s. record s { disable_help_flag = true }) (new_app (codes "hop"))

-- the command that is handed to clap: an option of each name, and the plain words
abbrev pub hop_app : List Text → App
hop_app names = on_top (λ s. record s { rules = map option_rule names ++ plain_rule ∷ [] }) hop_bare

-- each word is text
abbrev pub AllText : List Text → Type 0
AllText [] = Unit {0}
AllText (word ∷ words) = IsUtf8 word × AllText words

-- a first word stands for the program's name, and the others are text
abbrev pub NamesProgram : List Text → Type 0
NamesProgram [] = ⊥
NamesProgram (word ∷ words) = (word ≡ codes "hop") × AllText words

-- the words behind the first
abbrev pub words_behind : List Text → List Text
words_behind [] = []
words_behind (word ∷ words) = words

-- the values that a parse has for an id
abbrev pub values_at : Text → List Row → List Text
values_at id rows = option_map_or (λ (r : Row). r.values) (find (λ (r : Row). bytes_eq r.id id) rows) []

-- the same of what was found
abbrev pub given_in : ArgMatches → Text → List Text
given_in m id = values_at id (rows_of (found_of m))

-- the texts that a getter gives
abbrev pub texts_in : Option (Bor (List (Bor Text))) → List Text
texts_in None = []
texts_in (Some texts) = map (λ text. text.now) texts.now

-- those that the scan has for it: the plain words have an id of their own
abbrev pub values_for : Text → Scanned → List Text
values_for id s = if bytes_eq plain_id id then s.plain else values_given id s

-- the parse has for each id what the scan has
abbrev pub HasValues : Option Scanned → ArgMatches → Type 0
HasValues None m = ⊥
HasValues (Some s) m = (id : Text) → given_in m id ≡ values_for id s

-- the parse found what the words give
abbrev pub Finds : List Text → ArgMatches → Type 0
Finds words m = HasValues (scan option_names None words) m
