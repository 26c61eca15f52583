use Rattle.std.proofs.Common.{sym, subst}
use Rattle.hop_machine.specs.step.Steps.{Deeds}
use Rattle.hop_machine.specs.play.Play.{Actors}
use Rattle.hop_machine.specs.play.FirstState.{IsNew}
use Rattle.hop_machine.specs.run.AllHome.{IsStart}
use Rattle.hop_start.specs.Made.{actors_with}
use Rattle.hop_start.proofs.start_laws.new_actors_start.Goals as goal

pub returns-clause-start : goal.returns-clause-start
returns-clause-start c = λ s backup mappers reducers d set ms rs ds.
    subst (λ (x : Actors × Deeds). IsStart backup x.0 x.1) (sym {A = Actors × Deeds} (λ i. (actors_with s (ms i) (rs i), ds i))) (c.runs_start.ensures.start s backup d.ends set)

pub returns-clause-new : goal.returns-clause-new
returns-clause-new c = λ s backup mappers reducers d set ms rs ds.
    subst (λ (x : Actors × Deeds). IsNew backup (record { actors = x.0; deeds = x.1 })) (sym {A = Actors × Deeds} (λ i. (actors_with s (ms i) (rs i), ds i))) (c.runs_start.ensures.new s backup d.ends set)
