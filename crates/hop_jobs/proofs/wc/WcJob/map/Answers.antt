use Rattle.std.proofs.Common.{refl, arith}
use Rattle.hop_jobs.proofs.Pieces.{emits_more, emits_last}
use Rattle.hop_jobs.proofs.wc.WcJob.map.Goals as goal

pub loop-end-preserved : goal.loop-end-preserved
loop-end-preserved c = record {
  told = emits_more c.loop-end.rest.now c.split_at.result.1.now _ c.args.line.now c.in-Some.end c.loop-end.pairs.items c.push_piece.new.pairs.items
      c.in-Some.ensures.0.high (λ j lt. c.in-Some.ensures.0.before j (omega arith) lt) c.in-Some.ensures.1
      refl c.split_at.ensures.back c.in_ok-push_piece.ensures c.loop-end.invariant.told;
  short = omega (arith, c.split_at.ensures.back_len, c.loop-end.invariant.short);
}

pub returns : goal.returns
returns c = emits_last c.loop-end.rest.now c.args.line.now c.loop-end.pairs.items _ (λ j lt. c.in_default.ensures j (omega arith) lt) c.in_ok-push_piece-2.ensures c.loop-end.invariant.told
