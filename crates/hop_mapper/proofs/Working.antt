-- What at home says of the running attempt.
use Rattle.std.proofs.Common.{ℕ, List, sym, arith}
use Rattle.hop_base.specs.Run.{ScriptLines, RunSettings}
use Rattle.hop_machine.specs.step.Steps.{Deeds}
use Rattle.hop_machine.specs.home.Said.{SaidOfMapper, WorkIs}
use Rattle.hop_machine.proofs.ending.KeptEnds.{kept_end-within}
use Rattle.hop_mapper.specs.declared.work.Work.{Work}
use Rattle.hop_mapper.specs.declared.work.Work.TheVariants.{Runs, Retries, Free}
use Rattle.hop_mapper.specs.Mappers.{MapperValue, mapper_of, work_of}
use Rattle.hop_mapper.specs.Next.{WorksHere}

module _ (records : List (List ℕ)) (script : ScriptLines) (settings : RunSettings) {V K : Type 0} (m : MapperValue V K) (d : Deeds) (said : SaidOfMapper (mapper_of records script settings m) d) where
  works : (w : Work) → WorkIs (mapper_of records script settings m) d (work_of w) → WorksHere records settings m.vault.rows (work_of w)
  works (Runs run) h = record {
    split = said.splits run.split run.attempt h.began.drawn;
    attempt = h.began.below;
    within = let w = kept_end-within (mapper_of records script settings m).rules run.split run.attempt in let x = h.within in omega arith;
    kept = sym h.kept;
    whole = h.whole;
  }
  works (Retries split) h = tt
  works Free h = tt

  -- the running attempt is one of the run's, and what is done of it is kept
  pub works_here : WorksHere records settings m.vault.rows (work_of m.work)
  works_here = works m.work said.work
