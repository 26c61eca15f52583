use Rattle.std.proofs.Common.{◌*◌, ◌++◌, ◌∙◌}
use Rattle.std.specs.Prelude.{codes}
use Rattle.std.proofs.lemmas.Result.{IfOk-weaker}
use Rattle.hop_top.specs.Runs.{numbers_text}
use Rattle.hop_top.proofs.ending.run_summary.Goals as goal

-- its numbers, and what is said of its jobs
pub returns : goal.returns
returns c =
    let a = c.args in
    let numbers =
    c.as_str.ensures.value ∙ c.in_ok-numbers.ensures
    ∙ (λ i. numbers_text a.records a.splits a.parts (a.parts * a.marks) (c.attempts_in_all-attempts.ensures i) (c.kept_in_all-pulled.ensures i) (c.kept_in_all-settled.ensures i)) in
    let words = c.as_str-2.ensures.value ∙ c.in_ok-words.ensures in
    IfOk-weaker c.summary_line.result _ _ (λ s e. e ∙ (λ i. numbers i ++ (words i ++ codes "\n"))) c.summary_line.ensures
