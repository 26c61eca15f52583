use Rattle.std.proofs.Common.{refl, sym, ap, ◌∙◌}
use Rattle.hop_base.specs.Run.{ScriptLines, FailLine, fails_at}
use Rattle.hop_script.specs.Draft.{fail_line}
use Rattle.hop_script.proofs.KeptLemmas.{find-lines}
use Rattle.hop_script.proofs.DraftLemmas.{attempt_cmp, eq_of_two_back}
use Rattle.hop_script.proofs.script.Script.fails_at.Goals as goal

pub returns : goal.returns
returns c =
    let split = c.args.split in
    let attempt = c.args.attempt in
    let found = find-lines attempt_cmp fail_line (record { split = split; attempt = attempt }) _ (λ e. eq_of_two_back split attempt e.0.split e.0.attempt) (λ (l : FailLine). l.at) (λ e. refl) c.self.inside.fails.entries in
    c.copied.ensures ∙ c.get.ensures.value ∙ sym found ∙ ap (λ (script : ScriptLines). fails_at script split attempt) c.self.view_is
