use Rattle.std.proofs.Common.{ℕ, ◌<◌, length, arith}
use Rattle.hop_records.specs.Records.{lens_of}
use Rattle.hop_shelf.specs.Names.{book_of}
use Rattle.hop_machine.specs.declared.words.Turn.{Turn}
use Rattle.hop_machine.specs.actors.MapperTurns.{Mapper}
use Rattle.hop_inner.specs.Setups.{parts}
use Rattle.hop_actors.specs.Acting.{said_turn}
use Rattle.hop_mapper.specs.Mappers.{mapper_of}
use Rattle.hop_mapper.proofs.Begun.{may_ask, found_safe, found_runs, next_safe, next_runs}
use Rattle.hop_mapper.proofs.state.State.back_up.Goals as goal

pub winner_of-requires-clause-may : goal.winner_of-requires-clause-may
winner_of-requires-clause-may g c =
    let R = g.N.RunName in let e = g.E.Reach.exact in let m = mapper_of R.records R.script R.settings c.loop-split.self in
    let n : ℕ = length (lens_of (book_of R.records R.settings)) in
    let k = c.splits-split-end.ensures in let t = c.loop-split-test.true in
    let h : c.loop-split.split < n = omega arith in
    let i = c.loop-split.split in let a = g.E.Reach.deeds c.loop-split.reach in
    may_ask parts e m n i h a c.loop-split.invariant.safe

pub begin_backup-requires-clause-safe : goal.begin_backup-requires-clause-safe
begin_backup-requires-clause-safe g c =
    let R = g.N.RunName in let e = g.E.Reach.exact in let m = mapper_of R.records R.script R.settings c.loop-split.self in
    let n : ℕ = length (lens_of (book_of R.records R.settings)) in
    let k = c.splits-split-end.ensures in let t = c.loop-split-test.true in
    let h : c.loop-split.split < n = omega arith in
    let i = c.loop-split.split in let a = g.E.Reach.deeds c.loop-split.reach in
    found_safe parts e m n i h a c.winner_of.result (g.E.Reach.deeds c.winner_of.new.reach) c.winner_of.ensures c.in-None.is c.loop-split.invariant.safe

pub returns-in-None-clause-runs : goal.returns-in-None-clause-runs
returns-in-None-clause-runs g c =
    let R = g.N.RunName in let e = g.E.Reach.exact in let m = mapper_of R.records R.script R.settings c.loop-split.self in
    let n : ℕ = length (lens_of (book_of R.records R.settings)) in
    let k = c.splits-split-end.ensures in let t = c.loop-split-test.true in
    let h : c.loop-split.split < n = omega arith in
    let i = c.loop-split.split in let a = g.E.Reach.deeds c.loop-split.reach in
    let b = g.E.Reach.deeds c.winner_of.new.reach in
    let x : Mapper × Turn = (mapper_of R.records R.script R.settings c.begin_backup.new.self, said_turn c.begin_backup.result) in let d = g.E.Reach.deeds c.begin_backup.new.reach in
    c.loop-split.invariant.completes x d (found_runs parts e m n i h a c.winner_of.result b c.winner_of.ensures c.in-None.is x d c.begin_backup.ensures.runs)

pub loop-split-preserved : goal.loop-split-preserved
loop-split-preserved g c =
    let R = g.N.RunName in let e = g.E.Reach.exact in let m = mapper_of R.records R.script R.settings c.loop-split.self in
    let n : ℕ = length (lens_of (book_of R.records R.settings)) in
    let k = c.splits-split-end.ensures in let t = c.loop-split-test.true in
    let h : c.loop-split.split < n = omega arith in
    let i = c.loop-split.split in let a = g.E.Reach.deeds c.loop-split.reach in
    let b = g.E.Reach.deeds c.winner_of.new.reach in record {
      same = c.loop-split.invariant.same;
      safe = next_safe parts e m n i h a c.winner_of.result b c.winner_of.ensures c.in-Some.field-0 c.in-Some.is c.loop-split.invariant.safe;
      completes = λ x d r. c.loop-split.invariant.completes x d (next_runs parts e m n i h a c.winner_of.result b c.winner_of.ensures c.in-Some.field-0 c.in-Some.is x d r);
    }
