use Rattle.std.proofs.Common.{◌≡◌, ℕ, Bool, List, [], ◌∷◌, map, refl, ap, ◌∙◌, Bor, rules, tests}
use Rattle.std.specs.Prelude.{◌&&◌}
use Rattle.std.specs.List.{list_all}
use Rattle.std.proofs.lemmas.Iterator.{YieldsList-from_slice}
use Rattle.std.proofs.lemmas.Iterator.Search.{all_from_yields_List}
use Rattle.hop_words.specs.Clap.{given_in}
use Rattle.hop_words.specs.Options.{is_unset}
use Rattle.hop_words.proofs.values.takes_all.Goals as goal

-- a test of what is behind each
all_behind : (test : List ℕ → Bool) (texts : List (Bor (List ℕ))) → list_all (λ (t : Bor (List ℕ)). test t.now) texts ≡ list_all test (map (λ t. t.now) texts)
all_behind test [] = refl
all_behind test (t ∷ texts) = ap (λ b. test t.now && b) (all_behind test texts)

pub returns : goal.returns
returns c =
    let unset : List ℕ → Bool = λ name. is_unset (given_in c.args.matches.now name) in
    all_from_yields_List (λ (name : Bor (List ℕ)). unset name.now) _ _ _ c.all.ensures.ran (YieldsList-from_slice c.options_untaken.result.now cc) (λ x b q k. search (rules, tests))
    ∙ all_behind unset c.options_untaken.result.now
    ∙ ap (list_all unset) c.options_untaken.ensures
