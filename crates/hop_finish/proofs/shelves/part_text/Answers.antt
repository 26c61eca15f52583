use Rattle.std.proofs.Common.{ℕ, List, sym, subst}
use Rattle.hop_event.specs.Legal.{AllWon}
use Rattle.hop_finish.proofs.shelves.part_text.Goals as goal

pub reduced-requires-clause-won : goal.reduced-requires-clause-won
reduced-requires-clause-won g c = subst (λ (lens : List ℕ). AllWon lens c.args.shelf.now.journal.events) (sym c.known.ensures.sound.lens) c.requires.won
