use Rattle.std.proofs.Common.{◌≡◌, map, ap, ◌∙◌}
use Rattle.std.proofs.lemmas.Result.{IfOk-weaker}
use Rattle.hop_words.specs.Clap.{words_behind}
use Rattle.hop_words.proofs.AskedLaws.{asked_of_found}
use Rattle.hop_words.proofs.read.read_words.Goals as goal

pub returns-clause-options : goal.returns-clause-options
returns-clause-options c =
    let same : words_behind (map (λ t. t.now) c.deref.result.now) ≡ c.args.words.now = ap (λ ts. words_behind (map (λ t. t.now) ts)) c.deref.ensures.value ∙ c.in-Ok.ensures.words in
    IfOk-weaker c.read_found.result _ _ (λ o e. asked_of_found c.args.words.now _ c.in-Ok-parsed.matches same c.in-Ok-parsed.ensures.found ∙ e) c.read_found.ensures.options

pub returns-clause-usage : goal.returns-clause-usage
returns-clause-usage c = λ usage.
    let same : words_behind (map (λ t. t.now) c.deref.result.now) ≡ c.args.words.now = ap (λ ts. words_behind (map (λ t. t.now) ts)) c.deref.ensures.value ∙ c.in-Ok.ensures.words in
    asked_of_found c.args.words.now _ c.in-Ok-parsed.matches same c.in-Ok-parsed.ensures.found ∙ c.read_found.ensures.usage usage
