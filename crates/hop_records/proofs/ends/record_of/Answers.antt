use Rattle.std.proofs.Common.{rules, ◌≤◌, length, arith, get_or}
use Rattle.hop_records.proofs.EndsLemmas.{piece_at}
use Rattle.hop_records.proofs.ends.record_of.Goals as goal

pub slice_bounds-result-count : goal.slice_bounds-result-count
slice_bounds-result-count c =
    let piece = piece_at c.args.bytes.now 0 c.args.ends.now c.args.k c.requires.kept.ordered c.requires.within in omega (arith, piece.ordered)

pub slice_bounds-result-start : goal.slice_bounds-result-start
slice_bounds-result-start c =
    let piece = piece_at c.args.bytes.now 0 c.args.ends.now c.args.k c.requires.kept.ordered c.requires.within in
    let ordered : c.start_at-start.result ≤ get_or c.args.ends.now c.args.k 0 = omega (arith, piece.ordered) in
    let inside : get_or c.args.ends.now c.args.k 0 ≤ length c.args.bytes.now = piece.inside in
    search rules

pub slice_bounds-result-end : goal.slice_bounds-result-end
slice_bounds-result-end c =
    let piece = piece_at c.args.bytes.now 0 c.args.ends.now c.args.k c.requires.kept.ordered c.requires.within in
    let ordered : c.start_at-start.result ≤ get_or c.args.ends.now c.args.k 0 = omega (arith, piece.ordered) in
    let inside : get_or c.args.ends.now c.args.k 0 ≤ length c.args.bytes.now = piece.inside in
    search rules

pub returns : goal.returns
returns c =
    let piece = piece_at c.args.bytes.now 0 c.args.ends.now c.args.k c.requires.kept.ordered c.requires.within in
    rw (← c.requires.kept.records, c.start_at-start.ensures) piece.piece
