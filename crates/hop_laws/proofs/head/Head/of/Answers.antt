use Rattle.std.proofs.Common.{◌+◌, ◌<◌, ◌^◌, length, min, arith}
use Rattle.hop_laws.proofs.HeadLaws.{second_fits, head_made}
use Rattle.hop_laws.proofs.head.Head.of.Goals as goal

pub overflow_add-result : goal.overflow_add-result
overflow_add-result c =
    let h : c.word-2.result + min (length c.args.key.now) 16 < 2 ^ 64 = second_fits c.args.key.now c.split_at.result.1.now c.split_at-2.result.0.now c.min.result c.min-2.result c.word-2.result c.min.ensures c.min-2.ensures c.split_at.ensures.back c.split_at-2.ensures.front c.word-2.ensures c.word-2.type_inv in
    omega (arith, h, c.min-3.ensures)

pub returns : goal.returns
returns c =
    head_made c.args.key.now c.split_at.result.0.now c.split_at.result.1.now c.split_at-2.result.0.now c.min.result c.min-2.result c.min-3.result c.word.result c.word-2.result c.min.ensures c.min-2.ensures c.min-3.ensures c.split_at.ensures.front c.split_at.ensures.back c.split_at-2.ensures.front c.word.ensures c.word-2.ensures
