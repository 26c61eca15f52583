use Rattle.std.proofs.Common.{◌<◌, sym, ap, ◌∙◌, subst}
use Rattle.hop_writer.specs.Writers.{WriterValue}
use Rattle.hop_writer.proofs.Folders.{sound_after}
use Rattle.hop_writer.proofs.writer.Writer.write.Goals as goal

pub invariant_of-self : goal.invariant_of-self
invariant_of-self g c =
    let R = g.N.RunName in let o = c.put_cut-put.ensures in let x = c.self.inside in
    let W = λ (w : WriterValue g.row.F.Denot). c.lane_after-next.result < w.writer.setup.reducers in
    sound_after R.job R.records R.settings g.C.ChainName.later R.tells R.folder c.put_cut-put.result c.is_ok.result c.is_err-self-inside.result x.failed x.later.items (g.J.Job.meaning x.job.now) x.lens.now x.settings.now x.next c.lane_after-next.result
    (g.F.Folder.seen x.folder).held (g.F.Folder.seen c.put_cut-put.new.folder).held x.kept.items c.put_cut-put.new.kept.items x.notes c.add.new.self c.args.p c.args.cut
    c.self.invariant (ap (λ (w : WriterValue g.row.F.Denot). w.failed) c.self.view_is ∙ c.requires.well) (subst W (sym c.self.view_is) c.lane_after-next.ensures.below)
    c.add.ensures c.is_ok.ensures.value c.is_err-self-inside.ensures.value o.put o.left
