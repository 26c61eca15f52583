use Rattle.std.proofs.Common.{◌≡◌, List, ℕ, map, Bor}
use Rattle.hop_words.proofs.ClapAgrees.{behind_program, found, refused, text_behind}
use Rattle.hop_words.specs.Clap.{words_behind}
use Rattle.hop_words.specs.declared.fault.WordsFault.TheVariants.{Usage}
use Rattle.hop_words.proofs.parse.parsed.Goals as goal

abbrev texts : List (Bor (List ℕ)) → List (List ℕ)
texts ts = map (λ t. t.now) ts

pub returns-in-Ok-try_get_matches_from-clause-found : goal.returns-in-Ok-try_get_matches_from-clause-found
returns-in-Ok-try_get_matches_from-clause-found c =
    let given = texts c.args.texts.now in
    found (words_behind given) _ given c.in-Ok.ensures (behind_program given c.requires) (text_behind given c.requires) c.in-Ok-try_get_matches_from.matches c.in-Ok-try_get_matches_from.ensures.matches
    c.in-Ok-try_get_matches_from.ensures.kinds

pub returns-in-Err-try_get_matches_from-clause-usage : goal.returns-in-Err-try_get_matches_from-clause-usage
returns-in-Err-try_get_matches_from-clause-usage c = λ e.
    let given = texts c.args.texts.now in
    let usage : c.fault_of.result ≡ Usage = cc in
    refused (words_behind given) _ given c.in-Ok.ensures (behind_program given c.requires) (text_behind given c.requires) c.in-Err-try_get_matches_from.error (c.fault_of.ensures usage)
    c.in-Err-try_get_matches_from.ensures.kinds
