use Rattle.std.proofs.Common.{sym, subst}
use Rattle.hop_jobs.specs.Wc.{wc_meaning}
use Rattle.hop_run.specs.Runs.{RunStands}
use Rattle.hop_laws.proofs.Emitted.{valid_part}
use Rattle.hop_shelf.specs.Names.{pairs_of}
use Rattle.hop_tests.specs.Sample.{two_records, two_marks}
use Rattle.hop_tests.proofs.SampleLaws.{sample_run}
use Rattle.hop_tests.proofs.shelf.merged.Goals as goal

pub merged-requires-clause-stands : goal.merged-requires-clause-stands
merged-requires-clause-stands c = λ t. record {
  valid = c.flat-known.ensures.sheet.valid;
  stands = c.in_ok-run.ensures.stands wc_meaning.reduced (pairs_of wc_meaning two_records two_marks c.args.work.p) (λ q. valid_part wc_meaning sample_run.lawful two_records sample_run.short two_marks.split c.args.work.p two_marks.reducers q)
      (subst (RunStands wc_meaning.reduced (pairs_of wc_meaning two_records two_marks c.args.work.p)) (sym c.a.ensures.run) (c.a.ensures.stands t).stands)
      (subst (RunStands wc_meaning.reduced (pairs_of wc_meaning two_records two_marks c.args.work.p)) (sym c.b.ensures.run) (c.b.ensures.stands t).stands);
}
