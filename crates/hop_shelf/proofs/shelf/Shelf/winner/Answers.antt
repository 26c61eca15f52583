use Rattle.std.proofs.Common.{◌≤◌, inl, inr, ℕ, List, length, ap, sym, subst, ◌∙◌, arith}
use Rattle.hop_event.specs.History.{winner}
use Rattle.hop_shelf.specs.Sound.{ShelfValue}
use Rattle.hop_shelf.proofs.LookupLaws.{no_winner}
use Rattle.hop_shelf.proofs.shelf.Shelf.winner.Goals as goal

pub returns-else-has_attempt : goal.returns-else-has_attempt
returns-else-has_attempt g c =
    let within : length c.self.inside.journal.lens ≤ c.args.split = elim (c.has_attempt.ensures.absent c.if-has_attempt.false) [ inl le ↦ le | inr le ↦ absurd (omega (arith, le)) ] in
    let out = subst (λ (lens : List ℕ). length lens ≤ c.args.split) c.self.invariant.lens within in
    sym (no_winner _ _ c.self.inside.journal.events c.self.invariant.legal c.args.split out) ∙ ap (λ (v : ShelfValue). winner c.args.split v.journal.events) c.self.view_is
