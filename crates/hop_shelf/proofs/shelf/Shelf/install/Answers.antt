use Rattle.std.proofs.Common.{sym, subst, ◌∙◌}
use Rattle.hop_shelf.specs.Names.{rules_of, pairs_of}
use Rattle.hop_shelf.specs.Work.{IsMergeOf}
use Rattle.hop_shelf.specs.Kept.{AreMergeable}
use Rattle.hop_shelf.proofs.ShelfLaws.{joined_sound}
use Rattle.hop_shelf.proofs.shelf.Shelf.install.Goals as goal

pub invariant_of-self : goal.invariant_of-self
invariant_of-self g c =
    rw c.put_merged.ensures
    (joined_sound (rules_of g.N.RunName.records g.N.RunName.script g.N.RunName.settings) c.self.inside.p g.N.RunName.settings.marks g.N.RunName.settings.tentative g.N.RunName.tells g.N.RunName.job.reduced (pairs_of g.N.RunName.job g.N.RunName.records g.N.RunName.settings c.self.inside.p) c.self.inside.journal c.self.inside.kept.items c.self.invariant c.in-Some.m c.in-Some.n c.args.done.work c.into_run.result
    (subst (λ kept. AreMergeable kept c.in-Some.m c.in-Some.n c.args.done.work.a c.args.done.work.first.parts c.args.done.work.b c.args.done.work.second.parts) c.deref.ensures.value c.in-Some.ensures.found)
    (subst (λ p. IsMergeOf g.N.RunName.tells g.N.RunName.job.reduced (pairs_of g.N.RunName.job g.N.RunName.records g.N.RunName.settings p) c.args.done.work c.into_run.result) (sym c.p.ensures ∙ c.if-p-self.false)
    (subst (λ run. IsMergeOf g.N.RunName.tells g.N.RunName.job.reduced (pairs_of g.N.RunName.job g.N.RunName.records g.N.RunName.settings c.args.done.work.p) c.args.done.work run) (sym c.into_run.ensures.run) c.into_run.ensures.merge)))
