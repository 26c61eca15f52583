use Rattle.std.proofs.Common.{◌≡◌, ℕ, ◌-◌, length}
use Rattle.hop_records.specs.Records.{lens_of}
use Rattle.hop_shelf.specs.Names.{book_of}
use Rattle.hop_machine.specs.declared.words.Turn.{Turn}
use Rattle.hop_machine.specs.step.Steps.{Deeds, Runs}
use Rattle.hop_machine.specs.home.Conditions.{Safe}
use Rattle.hop_machine.specs.actors.MapperTurns.{backs_up}
use Rattle.hop_machine.specs.actors.MapperTurns as machine
use Rattle.hop_inner.specs.Setups.{parts}
use Rattle.hop_mapper.specs.Mappers.{mapper_of}
use Rattle.hop_mapper.proofs.state.State.back_up.Given as goal

-- the mapper is as before; what is left to look at is safe, and completes the whole
abbrev pub invariant-loop-split : goal.invariant-loop-split
invariant-loop-split g l =
    let E = g.E.Reach in
    let m = mapper_of g.N.RunName.records g.N.RunName.script g.N.RunName.settings l.self in
    let o = mapper_of g.N.RunName.records g.N.RunName.script g.N.RunName.settings l.fn.self in
    let n : ℕ = length (lens_of (book_of g.N.RunName.records g.N.RunName.settings)) in record {
      same : l.self ≡ l.fn.self;
      safe : Safe parts E.exact (backs_up m (n - l.split) l.split) (E.deeds l.reach);
      completes : (x : machine.Mapper × Turn) (d : Deeds) → Runs E.exact (backs_up m (n - l.split) l.split) (E.deeds l.reach) x d → Runs E.exact (backs_up o (n - o.place) o.place) (E.deeds l.fn.reach) x d;
    }
