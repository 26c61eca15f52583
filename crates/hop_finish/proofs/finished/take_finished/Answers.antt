use Rattle.std.proofs.Common.{ℕ, List, length, map, sym, ap, subst, ◌∙◌}
use Rattle.std.specs.Prelude.{All}
use Rattle.std.specs.List.{range_with_len}
use Rattle.hop_event.specs.declared.event.Event.{Event}
use Rattle.hop_event.specs.Legal.{AllWon}
use Rattle.hop_laws.specs.Blocking.{blocking}
use Rattle.hop_records.specs.Records.{lens_of}
use Rattle.hop_shelf.specs.Names.{book_of}
use Rattle.hop_shelf.specs.Sound.{ShelfValue}
use Rattle.hop_finish.proofs.LeftLaws.{along, each_won, shelves-length}
use Rattle.hop_finish.proofs.finished.take_finished.Goals as goal

pub part_texts-requires-clause-won : goal.part_texts-requires-clause-won
part_texts-requires-clause-won g c =
    let lens = lens_of (book_of g.N.RunName.records g.N.RunName.settings) in
    subst (λ (ss : List ShelfValue). All (λ (s : ShelfValue). AllWon lens s.journal.events) ss) (sym c.deref.ensures.value)
    (each_won (g.E.Reach.deeds c.args.reach.now) c.args.reducers c.in_ok-shelves.shelves.items c.in_ok-shelves.ensures lens c.requires.won)

pub returns-clause-histories : goal.returns-clause-histories
returns-clause-histories g c =
    c.in_ok-histories.ensures ∙ along (g.E.Reach.deeds c.args.reach.now) c.args.reducers c.in_ok-shelves.shelves.items c.in_ok-shelves.ensures (λ (x : ℕ × List Event). x.1)

pub returns-clause-count : goal.returns-clause-count
returns-clause-count g c =
    c.in_ok-texts.ensures.count ∙ ap (λ (ss : List ShelfValue). length ss) c.deref.ensures.value
    ∙ shelves-length (g.E.Reach.deeds c.args.reach.now) c.args.reducers c.in_ok-shelves.shelves.items c.in_ok-shelves.ensures

pub returns-clause-texts : goal.returns-clause-texts
returns-clause-texts g c = λ tells.
    let R = g.N.RunName in
    c.in_ok-texts.ensures.texts tells
    ∙ ap (map (λ (s : ShelfValue). blocking R.job R.records s.p R.settings.reducers)) c.deref.ensures.value
    ∙ along (g.E.Reach.deeds c.args.reach.now) c.args.reducers c.in_ok-shelves.shelves.items c.in_ok-shelves.ensures (λ (x : ℕ × List Event). blocking R.job R.records x.0 R.settings.reducers)
    ∙ ap (λ r. map (λ p. blocking R.job R.records p r) (range_with_len 0 c.args.reducers)) (sym c.requires.reducers)
