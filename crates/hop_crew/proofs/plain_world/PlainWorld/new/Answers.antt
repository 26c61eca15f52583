use Rattle.std.proofs.Common.{rules, ◌≡◌, length, sym, ap, ◌∙◌, subst}
use Rattle.std.specs.List.{range_with_len}
use Rattle.hop_inner.specs.Setups.{setup_of}
use Rattle.hop_machine.specs.step.Steps.{Deeds}
use Rattle.hop_board.specs.PlainBoards.{BoardValue, seats_of, words_of}
use Rattle.hop_crew.specs.Unused.{AreUnusedLanes, AreUnusedCutLanes}
use Rattle.hop_crew.proofs.New.{new_world}
use Rattle.hop_crew.proofs.plain_world.PlainWorld.new.Goals as goal

pub returns-clause-new : goal.returns-clause-new
returns-clause-new g c =
    (let n = g.N.RunName in let setup = setup_of n.records n.script n.settings in
    let now : BoardValue = c.split_seat-seat.new.self in let same = c.split_seat-seat.ensures.same in
    let name : c.split_seat-seat.result.name ≡ now.name = c.split_seat-seat.ensures.board ∙ ap (λ (d : Deeds). d.ends.board) (sym same) in
    let R = c.len-reducers.result in let long : R ≡ length c.args.values.items = search rules in let count : R ≡ setup.reducers = long ∙ c.requires.reducers in
    new_world setup now c.in_ok-lanes.lanes.items c.in_ok-cuts.cuts.items c.in_ok-keeps.keeps.items
    (λ who. ap (λ (d : Deeds). d.did.seats who) same ∙ (λ i. seats_of (c.requires.unasked i) who))
    (ap (λ (d : Deeds). d.words) same ∙ ap words_of c.requires.unasked)
    c.args.workers R c.requires.workers count
    (record {
      grid = c.in_ok-lanes.ensures.count;
      lanes_are = subst (λ name. AreUnusedLanes name R c.in_ok-lanes.lanes.items) name c.in_ok-lanes.ensures.lanes;
      line = c.in_ok-cuts.ensures.count;
      cuts_are = subst (λ name. AreUnusedCutLanes name c.in_ok-cuts.cuts.items) name c.in_ok-cuts.ensures.lanes;
      locks = c.in_ok-keeps.ensures.count ∙ sym long;
      numbers = c.in_ok-keeps.ensures.numbers ∙ c.requires.first.numbers_are ∙ ap (range_with_len 0) (sym c.in_ok-keeps.ensures.count);
      kept = c.in_ok-keeps.ensures.kept;
    })).0

pub returns-clause-all : goal.returns-clause-all
returns-clause-all g c =
    (let n = g.N.RunName in let setup = setup_of n.records n.script n.settings in
    let now : BoardValue = c.split_seat-seat.new.self in let same = c.split_seat-seat.ensures.same in
    let name : c.split_seat-seat.result.name ≡ now.name = c.split_seat-seat.ensures.board ∙ ap (λ (d : Deeds). d.ends.board) (sym same) in
    let R = c.len-reducers.result in let long : R ≡ length c.args.values.items = search rules in let count : R ≡ setup.reducers = long ∙ c.requires.reducers in
    new_world setup now c.in_ok-lanes.lanes.items c.in_ok-cuts.cuts.items c.in_ok-keeps.keeps.items
    (λ who. ap (λ (d : Deeds). d.did.seats who) same ∙ (λ i. seats_of (c.requires.unasked i) who))
    (ap (λ (d : Deeds). d.words) same ∙ ap words_of c.requires.unasked)
    c.args.workers R c.requires.workers count
    (record {
      grid = c.in_ok-lanes.ensures.count;
      lanes_are = subst (λ name. AreUnusedLanes name R c.in_ok-lanes.lanes.items) name c.in_ok-lanes.ensures.lanes;
      line = c.in_ok-cuts.ensures.count;
      cuts_are = subst (λ name. AreUnusedCutLanes name c.in_ok-cuts.cuts.items) name c.in_ok-cuts.ensures.lanes;
      locks = c.in_ok-keeps.ensures.count ∙ sym long;
      numbers = c.in_ok-keeps.ensures.numbers ∙ c.requires.first.numbers_are ∙ ap (range_with_len 0) (sym c.in_ok-keeps.ensures.count);
      kept = c.in_ok-keeps.ensures.kept;
    })).1
