use Rattle.std.proofs.Common.{◌≡◌, Some, Option, subst, sym, ap, ◌∙◌, map, filter, List}
use Rattle.hop_shelf.specs.declared.kept.Kept.{Kept}
use Rattle.hop_event.specs.declared.declared.Declared.{Declared}
use Rattle.hop_event.specs.Coverage.{cut_at}
use Rattle.hop_shelf.specs.Covered.{covers_in}
use Rattle.hop_shelf.specs.Cuts.{IsCut}
use Rattle.hop_shelf.specs.Names.{rules_of, pairs_of}
use Rattle.hop_shelf.specs.Sound.{ShelfValue}
use Rattle.hop_shelf.proofs.CutLaws.{sound_cut}
use Rattle.hop_shelf.proofs.shelf.Shelf.cut.Goals as goal

pub returns-clause-cut : goal.returns-clause-cut
returns-clause-cut g c =
    let back = sym c.self.view_is in
    subst (λ (v : ShelfValue). IsCut g.N.RunName.tells g.N.RunName.job.reduced (pairs_of g.N.RunName.job g.N.RunName.records g.N.RunName.settings v.p) v.journal (record { mark = c.args.mark; progress = c.progress-progress.result; declared = c.in_ok-declared.declared; runs = c.in_ok-runs.runs })) c.self.view_is
    (record {
      first = subst (λ (v : ShelfValue). cut_at v.journal.tentative v.journal.lens c.args.mark v.journal.events ≡ Some v.journal.events) back c.requires;
      progress_is = c.progress-progress.ensures;
      declared_is = c.in_ok-declared.ensures;
      stands = sound_cut (rules_of g.N.RunName.records g.N.RunName.script g.N.RunName.settings) c.self.inside.p g.N.RunName.settings.marks g.N.RunName.settings.tentative g.N.RunName.tells g.N.RunName.job.reduced (pairs_of g.N.RunName.job g.N.RunName.records g.N.RunName.settings c.self.inside.p) c.self.inside.journal c.self.inside.kept.items c.self.invariant
          c.in_ok-declared.declared c.in_ok-runs.runs c.in_ok-declared.ensures
          (c.in_ok-runs.ensures ∙ ap (λ (ds : List (Option Declared)). map (λ (k : Kept). k.run) (filter (λ (k : Kept). covers_in ds k.owner) c.deref.result.now)) c.as_slice.ensures ∙ ap (λ (kept : List Kept). map (λ (k : Kept). k.run) (filter (λ (k : Kept). covers_in c.in_ok-declared.declared k.owner) kept)) c.deref.ensures.value);
    })
