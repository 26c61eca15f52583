use Rattle.std.proofs.Common.{false, List, sym, subst, arith}
use Rattle.hop_cut.specs.declared.cut.Cut.{Cut}
use Rattle.hop_writer.specs.declared.kept.Kept.{Kept}
use Rattle.hop_writer.specs.declared.notes.Noted.{Noted}
use Rattle.hop_writer.specs.Writers.{IsSound}
use Rattle.hop_writer.proofs.Folders.{new_sound}
use Rattle.hop_writer.proofs.writer.Writer.new.Goals as goal

pub invariant_of-result : goal.invariant_of-result
invariant_of-result g c =
    let R = g.N.RunName in let q = c.requires in let held = (g.F.Folder.seen c.args.folder).held in
    let P : List Kept × List (Noted × Cut) → Type 0 = λ k. IsSound R.job R.records R.settings g.C.ChainName.later R.tells R.folder c.args.later.items (g.J.Job.meaning c.args.job.now) c.args.lens.now c.args.settings.now 0 held false k.0 k.1 in
    let own = c.args.later.ok in let few = q.few in let some = c.args.settings.now.some_reducers in let same = q.reducers in
    subst P (λ i. (sym c.new-2.ensures.items i, sym c.in-Ok.ensures i))
    (new_sound R.job R.records R.settings g.C.ChainName.later R.tells R.folder c.args.later.items (g.J.Job.meaning c.args.job.now) c.args.lens.now c.args.settings.now held q.start
    (record { later_are = q.later; few = omega (arith, own, few); job_is = q.job; lens_are = q.lens; reducers = same; lane = omega (arith, some, same) }))
