use Rattle.std.proofs.Common.{◌≡◌, slice_set, sym, ap, subst, Result, OnOk, IfErr}
use Rattle.hop_machine.specs.step.Steps.{Ends}
use Rattle.hop_actors.specs.Acting.{said_turn}
use Rattle.hop_actors.specs.declared.fault.Fault.{Fault}
use Rattle.hop_actors.specs.declared.fault.Fault.TheVariants as fault
use Rattle.hop_settle.specs.Crews.{AreWell}
use Rattle.hop_settle.proofs.TurnLaws.{stands_at, well_at}
use Rattle.hop_settle.proofs.AnswerLaws.{ok_when, err_when}
use Rattle.hop_settle.proofs.PlayLaws.{merged, mergers-set, merger-memory}
use Rattle.hop_settle.proofs.playing.order_merger.Goals as goal

pub turn-requires-clause-fits : goal.turn-requires-clause-fits
turn-requires-clause-fits g c = let x = c.index_mut.result.now in (c.requires.well c.args.j x (stands_at c.args.mergers.now.items c.args.j x x _ c.requires.place c.index_mut.ensures.value)).1

pub returns-clause-learns : goal.returns-clause-learns
returns-clause-learns g c = let E = g.E.Reach in let G = g.G.Actor in let x = c.index_mut.result.now in let y = c.turn.new.self in let xs = c.args.mergers.now.items in
    (merged E.exact (G.acting x) (G.acting y) (E.deeds c.args.reach.now) (E.deeds c.turn.new.reach) (said_turn c.turn.result) (c.requires.merges c.args.j x (stands_at xs c.args.j x x _ c.requires.place c.index_mut.ensures.value)) c.turn.ensures.turned).1

pub returns-clause-ends : goal.returns-clause-ends
returns-clause-ends g c = let E = g.E.Reach in let G = g.G.Actor in let x = c.index_mut.result.now in let y = c.turn.new.self in let xs = c.args.mergers.now.items in
    (merged E.exact (G.acting x) (G.acting y) (E.deeds c.args.reach.now) (E.deeds c.turn.new.reach) (said_turn c.turn.result) (c.requires.merges c.args.j x (stands_at xs c.args.j x x _ c.requires.place c.index_mut.ensures.value)) c.turn.ensures.turned).2

pub returns-clause-merges : goal.returns-clause-merges
returns-clause-merges g c = let E = g.E.Reach in let G = g.G.Actor in let x = c.index_mut.result.now in let y = c.turn.new.self in let xs = c.args.mergers.now.items in
    mergers-set G.acting xs c.args.j y c.requires.merges
    (merged E.exact (G.acting x) (G.acting y) (E.deeds c.args.reach.now) (E.deeds c.turn.new.reach) (said_turn c.turn.result) (c.requires.merges c.args.j x (stands_at xs c.args.j x x _ c.requires.place c.index_mut.ensures.value)) c.turn.ensures.turned).0

pub returns-clause-well : goal.returns-clause-well
returns-clause-well g c = let E = g.E.Reach in let G = g.G.Actor in let x = c.index_mut.result.now in let y = c.turn.new.self in let xs = c.args.mergers.now.items in
    let a = E.deeds c.args.reach.now in let b = E.deeds c.turn.new.reach in
    let P = AreWell G.failed G.fits b.ends.board (slice_set xs c.args.j y) in
    let board = ap (λ (k : Ends). k.board) (returns-clause-ends g c) in
    subst (λ (r : Result (Unit {0}) Fault). OnOk r P) (sym c.went_on.ensures)
    (ok_when c.turn.result P (λ on. well_at xs c.args.j x y _ c.requires.place c.index_mut.ensures.value G.failed G.fits a.ends.board b.ends.board board c.requires.well (c.turn.ensures.well on) c.turn.ensures.fits))

pub returns-clause-memory : goal.returns-clause-memory
returns-clause-memory g c = let G = g.G.Actor in let x = c.index_mut.result.now in let y = c.turn.new.self in let xs = c.args.mergers.now.items in
    subst (λ (r : Result (Unit {0}) Fault). IfErr r (λ f. f ≡ fault.NoMemory)) (sym c.went_on.ensures)
    (err_when c.turn.result (λ f. f ≡ fault.NoMemory)
    (λ f is. merger-memory g.N.RunName.job g.N.RunName.records g.N.RunName.script g.N.RunName.settings (G.acting x) (G.counts x) (G.counts y) c.turn.result f (c.requires.merges c.args.j x (stands_at xs c.args.j x x _ c.requires.place c.index_mut.ensures.value)) is c.turn.ensures.cause))
