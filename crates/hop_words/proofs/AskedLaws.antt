-- What the words ask for is read off the values that were found.
use Rattle.std.proofs.Common.{◌≡◌, List, ℕ, Option, None, Some, refl, sym, ap, ◌∙◌}
use Rattle.std.specs.Prelude.{option_and_then}
use Rattle.clap.specs.declared.parser.matches.ArgMatches.{ArgMatches}
use Rattle.hop_words.specs.Clap.{HasValues, given_in, plain_id, values_for}
use Rattle.hop_words.specs.Options.{Asked, Given, asked, asked_by, asked_from, block, chain, command_asked, options_asked, replay, run}
use Rattle.hop_words.specs.Scan.{Scanned, scan, values_given}
use Rattle.hop_words.specs.Table.{option_names}

module _ (s : Scanned) where
  -- the values by id, and those of the options
  abbrev by_id : Given
  by_id = λ id. values_for id s

  abbrev by_name : Given
  by_name = λ name. values_given name s

  same_options : (command : Asked) → options_asked by_id command ≡ options_asked by_name command
  same_options (block meaning input) = refl
  same_options (run meaning input) = refl
  same_options (replay meaning input) = refl
  same_options (chain meanings input) = refl

  -- no option has the id of the plain words
  same_asked : asked_from by_id (by_id plain_id) ≡ asked_by s
  same_asked = ap (λ f. option_and_then f (command_asked by_name s.plain)) (λ i command. same_options command i)

from_values : (o : Option Scanned) (m : ArgMatches) → HasValues o m → asked_from (given_in m) (given_in m plain_id) ≡ option_and_then asked_by o
from_values None m h = absurd h
from_values (Some s) m h = ap (λ (given : Given). asked_from given (given plain_id)) (λ i id. h id i) ∙ same_asked s

pub asked_of_found : (words other : List (List ℕ)) (m : ArgMatches) → other ≡ words → HasValues (scan option_names None other) m → asked words ≡ asked_from (given_in m) (given_in m plain_id)
asked_of_found words other m e h = sym (from_values (scan option_names None other) m h ∙ ap asked e)
