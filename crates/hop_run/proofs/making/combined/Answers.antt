use Rattle.hop_laws.proofs.Combined.{combined_sorted}
use Rattle.hop_run.proofs.MakingLaws.{sorted_given}
use Rattle.hop_run.proofs.making.combined.Goals as goal

-- combined pairs are in order
pub finish-requires : goal.finish-requires
finish-requires g c =
    let meaning = g.J.Job.meaning c.args.job.now in
    sorted_given _ _ _ c.new-builder.ensures c.in_ok-combined_into.ensures.given (combined_sorted meaning.combined c.args.list (g.met.J.Job.lawful c.args.job.now).combines_well c.in_ok-combined_into.ensures.valid)
