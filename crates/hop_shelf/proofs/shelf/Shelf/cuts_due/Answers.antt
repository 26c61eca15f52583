use Rattle.std.proofs.Common.{◌≡◌, ◌∙◌, sym, ap, subst, map}
use Rattle.hop_cut.specs.declared.cut.Cut.{Cut}
use Rattle.hop_shelf.specs.Cuts.{AreAllCut}
use Rattle.hop_shelf.specs.Sound.{ShelfValue}
use Rattle.hop_shelf.proofs.MarkLaws.{all_cut}
use Rattle.hop_shelf.proofs.shelf.Shelf.cuts_due.Goals as goal

pub returns-clause-every : goal.returns-clause-every
returns-clause-every g c = λ due.
    let cut : map (λ (x : Cut). x.mark) c.in_ok-cuts.cuts ≡ c.args.self.now.journal.due = c.in_ok-cuts.ensures.marks ∙ c.deref.ensures.value ∙ c.in_ok-marks.ensures.due ∙ ap (λ (v : ShelfValue). v.journal.due) c.self.view_is in
    let marks = sym (ap (λ (v : ShelfValue). v.journal.marks) c.self.view_is) ∙ c.self.invariant.marks_are in
    subst (AreAllCut c.args.self.now.journal) (sym cut) (all_cut g.N.RunName.settings.marks c.args.self.now.journal c.self.invariant.marked marks due)
