use Rattle.std.proofs.Common.{◌++◌, [], ◌∷◌, List, ℕ, map, refl, subst, take, arith}
use Rattle.std.specs.Prelude.{filter}
use Rattle.hop_base.specs.declared.value.Pair.{Pair}
use Rattle.hop_jobs.specs.Wc.{is_some_part, piece_pair}
use Rattle.hop_jobs.proofs.Pieces.{emits_more, emits_last}
use Rattle.hop_jobs.proofs.wc.WcJob.emit.Goals as goal

pub loop-end-preserved : goal.loop-end-preserved
loop-end-preserved g c =
    let done : List Pair = c.loop-end.invariant.told.0 in
    let piece : List ℕ = take c.in-Some.end c.loop-end.rest.now in
    let given : List Pair = map piece_pair (filter is_some_part (piece ∷ [])) in
    record {
      told = (
        done ++ given,
        (
          g.met.S.PairSink.takes_more c.args.sink.now c.loop-end.sink c.emit_piece.new.sink done given c.loop-end.invariant.told.1.0 c.in_ok-emit_piece.ensures,
          emits_more c.loop-end.rest.now c.split_at.result.1.now piece c.args.line.now c.in-Some.end done (done ++ given)
              c.in-Some.ensures.0.high (λ j lt. c.in-Some.ensures.0.before j (omega arith) lt) c.in-Some.ensures.1
              refl c.split_at.ensures.back refl c.loop-end.invariant.told.1.1,
        ),
      );
      short = omega (arith, c.split_at.ensures.back_len, c.loop-end.invariant.short);
    }

pub returns : goal.returns
returns g c =
    let done : List Pair = c.loop-end.invariant.told.0 in
    let given : List Pair = map piece_pair (filter is_some_part (c.loop-end.rest.now ∷ [])) in
    subst (λ (ps : List Pair). g.S.PairSink.takes c.args.sink.now ps c.emit_piece-2.new.sink)
    (emits_last c.loop-end.rest.now c.args.line.now done (done ++ given) (λ j lt. c.in_default.ensures j (omega arith) lt) refl c.loop-end.invariant.told.1.1)
    (g.met.S.PairSink.takes_more c.args.sink.now c.loop-end.sink c.emit_piece-2.new.sink done given c.loop-end.invariant.told.1.0 c.in_ok-emit_piece-2.ensures)
