use Rattle.std.proofs.Common.{◌≡◌, sym, subst, ap, ◌∙◌, List, Option, ℕ}
use Rattle.std.specs.List.{flat_map}
use Rattle.hop_base.specs.declared.value.Pair.{Pair}
use Rattle.hop_base.specs.Meaning.{Meaning}
use Rattle.hop_base.specs.Ranges.{AreLens}
use Rattle.hop_fold.specs.Folding.{Folds}
use Rattle.hop_laws.specs.Blocking.{blocking}
use Rattle.hop_laws.specs.Groups.{red}
use Rattle.hop_event.specs.declared.declared.Declared.{Declared}
use Rattle.hop_event.specs.Legal.{AllWon}
use Rattle.hop_shelf.specs.declared.kept.Kept.{Kept}
use Rattle.hop_shelf.specs.Covered.{covers_in}
use Rattle.hop_shelf.specs.Kept.{pairs_where}
use Rattle.hop_shelf.specs.Names.{rules_of, pairs_of}
use Rattle.hop_shelf.specs.Sound.{ShelfValue}
use Rattle.hop_shelf.proofs.CoveredParts.{whole_parts}
use Rattle.hop_shelf.proofs.CutLaws.{sound_reduced}
use Rattle.hop_shelf.proofs.RecordLaws.{whole_emitted}
use Rattle.hop_shelf.proofs.shelf.Shelf.reduced.Goals as goal

pub returns : goal.returns
returns g c = λ t.
    let won = subst (λ (v : ShelfValue). AllWon v.journal.lens v.journal.events) (sym c.self.view_is) c.requires.won in
    let kept : List Kept = c.self.inside.kept.items in
    let declared : List (Option Declared) = c.in_ok-declared.declared in
    let folded : List Pair = c.in_ok-folded.folded in
    let folds : Folds g.N.RunName.job.reduced folded (pairs_where (λ (k : Kept). covers_in declared k.owner) kept) =
    subst (λ (m : Meaning). Folds m.reduced folded (pairs_where (λ (k : Kept). covers_in declared k.owner) kept)) c.requires.job
    (subst (λ (ds : List (Option Declared)). Folds (g.J.Job.meaning c.args.job.now).reduced folded (pairs_where (λ (k : Kept). covers_in ds k.owner) kept)) c.as_slice.ensures
    (subst (λ (ks : List Kept). Folds (g.J.Job.meaning c.args.job.now).reduced folded (pairs_where (λ (k : Kept). covers_in c.as_slice.result.now k.owner) ks)) c.deref.ensures.value c.in_ok-folded.ensures)) in
    subst (λ (v : ShelfValue). c.in_ok-text.text ≡ blocking g.N.RunName.job g.N.RunName.records v.p g.N.RunName.settings.reducers) c.self.view_is
    (c.in_ok-text.ensures ∙ ap (λ (m : Meaning). red m.reduced folded) c.requires.job
    ∙ sound_reduced (rules_of g.N.RunName.records g.N.RunName.script g.N.RunName.settings) c.self.inside.p g.N.RunName.settings.marks g.N.RunName.settings.tentative g.N.RunName.tells g.N.RunName.job.reduced (pairs_of g.N.RunName.job g.N.RunName.records g.N.RunName.settings c.self.inside.p) c.self.inside.journal kept c.self.invariant
    won declared folded c.in_ok-declared.ensures folds t
    ∙ ap (red g.N.RunName.job.reduced) (ap (λ (ls : List ℕ). flat_map (pairs_of g.N.RunName.job g.N.RunName.records g.N.RunName.settings c.self.inside.p) (whole_parts ls)) c.self.invariant.lens
    ∙ whole_emitted g.N.RunName.job g.N.RunName.records g.N.RunName.settings c.self.inside.p (subst AreLens c.self.invariant.lens c.self.invariant.ranges)))
