use Rattle.std.proofs.Common.{◌+◌, ◌-◌, ◌≤◌, length, drop, arith}
use Rattle.std.proofs.lemmas.List.{take_all, length-drop}
use Rattle.hop_script.proofs.TextLemmas.{IsCut, cut_first}
use Rattle.hop_script.proofs.text.cut_at.Goals as goal

pub returns-in_err-at : goal.returns-in_err-at
returns-in_err-at c = rw c.from_residual.ensures (rw (← c.in_err-at.ensures.value) at (cut_first c.args.byte c.args.bytes.now))

pub returns : goal.returns
returns c =
    let bytes = c.args.bytes.now in
    let at = c.in_ok-at.at in
    let cut : IsCut c.args.byte bytes at = rw (← c.in_ok-at.ensures.value) at (cut_first c.args.byte bytes) in
    let whole : length (drop (at + 1) bytes) ≤ length bytes - (at + 1) = omega (arith, length-drop (at + 1) bytes) in
    (rw (take_all (length bytes - (at + 1)) (drop (at + 1) bytes) whole) cut.parts, cut.first)
