use Rattle.std.proofs.Common.{◌≡◌, map, Some, arith}
use Rattle.std.specs.List.{slice_get}
use Rattle.std.proofs.lemmas.List.{length-map}
use Rattle.std.proofs.lemmas.Option.{slice_get_within}
use Rattle.hop_settle.proofs.Placing.{at-mapped}
use Rattle.hop_settle.proofs.KeeperLaws.{most-begun}
use Rattle.hop_settle.proofs.catching.begun_of.Goals as goal
use Rattle.hop_settle.proofs.catching.begun_of.Goals.{then-begun-most, else-begun-most}

pub loop-w-preserved : goal.loop-w-preserved
loop-w-preserved g c =
    let f = g.M.Store.mapper in let ms = map f c.args.mappers.now.items in let i = c.args.split in
    let m = f c.index.result.now in let l = c.loop-w in
    let is : slice_get ms l.w ≡ Some m = at-mapped f c.args.mappers.now.items l.w c.index.result.now (omega (arith, c.loop-w-test.true, c.len-w-end.ensures)) c.index.ensures in
    elim c.if-begun-most.branch [
      | then-begun-most w ↦
          let now = w.most-is in let more = w.if-begun-most.true in
          record {
            most = most-begun ms i l.w m is l.most c.if-begun-most.most (omega (arith, now, more)) (omega (arith, now, c.begun-begun.ensures)) (λ k n below g. l.invariant.most k n below g);
            least = λ n h. let x = h l.w m is in omega (arith, now, x, c.begun-begun.ensures);
          }
      | else-begun-most w ↦
          let now = w.most-is in let more = w.if-begun-most.false in
          record {
            most = most-begun ms i l.w m is l.most c.if-begun-most.most (omega (arith, now)) (omega (arith, now, more, c.begun-begun.ensures)) (λ k n below g. l.invariant.most k n below g);
            least = λ n h. let x = l.invariant.least n h in omega (arith, now, x);
          }
    ]

pub returns-clause-most : goal.returns-clause-most
returns-clause-most g c = λ k m is.
    let f = g.M.Store.mapper in let ms = map f c.args.mappers.now.items in
    let x = slice_get_within ms k m is in let n = length-map c.args.mappers.now.items f in c.loop-w.invariant.most k m (omega (arith, x, n, c.loop-w-test.false, c.len-w-end.ensures)) is
