use Rattle.std.proofs.Common.{sym, subst}
use Rattle.hop_event.specs.Legal.{AllWon}
use Rattle.hop_records.specs.Records.{lens_of}
use Rattle.hop_shelf.specs.Names.{book_of}
use Rattle.hop_shelf.specs.Sound.{ShelfValue}
use Rattle.hop_finish.proofs.shelves.part_texts.Goals as goal

pub part_text-requires-clause-won : goal.part_text-requires-clause-won
part_text-requires-clause-won g c =
    subst (λ (s : ShelfValue). AllWon (lens_of (book_of g.N.RunName.records g.N.RunName.settings)) s.journal.events) (sym c.shelf-item.is)
    (c.requires.won c.loop-shelf.shelf-index c.shelf-item.result c.loop-shelf-test.true)
