use Rattle.std.proofs.Common.{◌≤◌, ◌⊎◌, ℕ, List, length, ap, sym, subst, ◌∙◌}
use Rattle.hop_event.specs.History.{upto}
use Rattle.hop_shelf.specs.Sound.{ShelfValue}
use Rattle.hop_shelf.proofs.LookupLaws.{no_records}
use Rattle.hop_shelf.proofs.shelf.Shelf.upto.Goals as goal

pub returns-else-has_attempt : goal.returns-else-has_attempt
returns-else-has_attempt g c =
    let out = subst (λ (lens : List ℕ). (length lens ≤ c.args.split) ⊎ (16 ≤ c.args.attempt)) c.self.invariant.lens (c.has_attempt.ensures.absent c.if-has_attempt.false) in
    sym (no_records _ _ c.self.invariant.limit c.args.split c.args.attempt out c.self.inside.journal.events c.self.invariant.legal) ∙ ap (λ (v : ShelfValue). upto c.args.split c.args.attempt v.journal.events) c.self.view_is
