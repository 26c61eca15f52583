use Rattle.hop_settle.proofs.Placing.{at-mapped, mapped-set, at-place}
use Rattle.hop_settle.proofs.pulling.pull.Goals as goal

pub returns-clause-pulled : goal.returns-clause-pulled
returns-clause-pulled g c =
    let f = g.D.Taker.reducer in let rs = c.args.reducers.now.items in let x = c.index_mut.result.now in let y = c.pull_into.new.reducer in
    record {
      before = f x;
      here = at-mapped f rs c.args.p x c.requires.place c.index_mut.ensures.value;
      after = f y;
      now = mapped-set f rs c.args.p x y (at-place f rs c.args.p x c.requires.place c.index_mut.ensures.value);
      runs = c.pull_into.ensures.runs;
    }
