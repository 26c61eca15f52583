use Rattle.std.proofs.Common.{◌≡◌, map, Some, sym, ap, arith}
use Rattle.std.specs.List.{slice_get}
use Rattle.std.proofs.lemmas.List.{length-map}
use Rattle.std.proofs.lemmas.Option.{slice_get_within}
use Rattle.hop_settle.specs.declared.pulling.Keeper.{Keeper}
use Rattle.hop_settle.proofs.Placing.{at-mapped}
use Rattle.hop_settle.proofs.KeeperLaws.{most-more, keeps-it, keeper-same, kept-is}
use Rattle.hop_settle.proofs.pulling.keeper_of.Goals as goal
use Rattle.hop_settle.proofs.pulling.keeper_of.Goals.{then-end-best, else-end-best}

pub loop-w-preserved : goal.loop-w-preserved
loop-w-preserved g c =
    let f = g.M.Store.mapper in let ms = map f c.args.mappers.now.items in let i = c.args.split in let a = c.args.attempt in
    let m = f c.index.result.now in let l = c.loop-w in
    let is : slice_get ms l.w ≡ Some m = at-mapped f c.args.mappers.now.items l.w c.index.result.now (omega (arith, c.loop-w-test.true, c.len-w-end.ensures)) c.index.ensures in
    elim c.if-end-best.branch [
      | then-end-best w ↦
          let end = ap (λ (k : Keeper). k.end) w.best-is in
          let place = ap (λ (k : Keeper). k.place) w.best-is in
          let more = w.if-end-best.true in
          record {
            most = most-more ms i a l.w m is l.best.end c.if-end-best.best.end (omega (arith, end, more)) (omega (arith, end, c.kept-end.ensures)) (λ k n below g. l.invariant.most k n below g);
            keeper = λ h. keeper-same ms i a l.w c.if-end-best.best.place c.kept-end.result c.if-end-best.best.end place end (keeps-it ms i a l.w m is c.kept-end.result (sym c.kept-end.ensures));
          }
      | else-end-best w ↦
          let end = ap (λ (k : Keeper). k.end) w.best-is in
          let place = ap (λ (k : Keeper). k.place) w.best-is in
          let more = w.if-end-best.false in
          record {
            most = most-more ms i a l.w m is l.best.end c.if-end-best.best.end (omega (arith, end)) (omega (arith, end, more, c.kept-end.ensures)) (λ k n below g. l.invariant.most k n below g);
            keeper = λ h. keeper-same ms i a l.best.place c.if-end-best.best.place l.best.end c.if-end-best.best.end place end (l.invariant.keeper (omega (arith, end, h)));
          }
    ]

pub returns-clause-end : goal.returns-clause-end
returns-clause-end g c =
    let f = g.M.Store.mapper in let ms = map f c.args.mappers.now.items in let l = c.loop-w in
    kept-is ms c.args.split c.args.attempt l.best.place l.best.end
    (λ k m g. let x = slice_get_within ms k m g in let n = length-map c.args.mappers.now.items f in l.invariant.most k m (omega (arith, x, n, c.loop-w-test.false, c.len-w-end.ensures)) g) l.invariant.keeper
