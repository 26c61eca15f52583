use Rattle.std.proofs.Common.{ℕ, Option, unwrap_or, refl, sym, ap, ◌∙◌}
use Rattle.std.specs.Ordering.{nat_cmp}
use Rattle.hop_base.specs.Run.{ScriptLines, DelayLine, delay_of}
use Rattle.hop_script.specs.Draft.{delay_line}
use Rattle.hop_script.proofs.KeptLemmas.{find-lines}
use Rattle.hop_script.proofs.DraftLemmas.{eq_of_one_back}
use Rattle.hop_script.proofs.script.Script.delay.Goals as goal

pub returns : goal.returns
returns c =
    let worker = c.args.w in
    let found = find-lines nat_cmp delay_line worker _ (λ e. eq_of_one_back worker e.0) (λ (l : DelayLine). l.turns) (λ e. refl) c.self.inside.delays.entries in
    c.unwrap_or.ensures
    ∙ ap (λ (o : Option ℕ). unwrap_or o 0) (c.copied.ensures ∙ c.get.ensures.value ∙ sym found)
    ∙ ap (λ (script : ScriptLines). delay_of script worker) c.self.view_is
