use Rattle.std.proofs.Common.{reverse, subst}
use Rattle.std.proofs.lemmas.List.{reverse-append}
use Rattle.hop_machine.specs.step.Pushing.{IsPushed}
use Rattle.hop_machine.proofs.mapper.SafeLanes.{pushed_suffix}
use Rattle.hop_machine.proofs.step_laws.beginnings_are_workers_lists.Goals as goal

pub returns : goal.returns
returns c = λ rules xs ys h. pushed_suffix rules (reverse ys) (reverse xs) (subst (λ zs. IsPushed rules zs) (reverse-append xs ys) h)
