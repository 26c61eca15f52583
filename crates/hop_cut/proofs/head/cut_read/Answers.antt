use Rattle.std.proofs.Common.{◌≡◌, Err, refl, ap}
use Rattle.hop_cut.specs.declared.head.SnapFault.TheVariants.{NotASnapshot}
use Rattle.hop_cut.proofs.AcceptLaws.{no_fault}
use Rattle.hop_cut.proofs.DueLaws.{stop_splits, read_whole}
use Rattle.hop_cut.proofs.head.cut_read.Goals as goal

pub returns-in-Err-split_lines-clause-refused : goal.returns-in-Err-split_lines-clause-refused
returns-in-Err-split_lines-clause-refused c = λ line e.
    let same : c.in-Err-split_lines.fault ≡ NotASnapshot line = cc in
    stop_splits c.args.bytes.now c.in-Ok.first.mark c.in-Ok.first.reducer c.in-Ok.first.reducers c.in-Ok.first.progress c.in-Ok.first.rest.now c.in-Ok.ensures line (c.in-Err-split_lines.ensures.refused line (ap (λ f. Err f) same))

pub returns-in-Err-clause-accepted : goal.returns-in-Err-clause-accepted
returns-in-Err-clause-accepted c = λ header body ranges begins line e. no_fault c.args.bytes.now c.in-Err.line header body ranges begins c.in-Err.ensures

pub returns-in-Err-split_lines-clause-accepted : goal.returns-in-Err-split_lines-clause-accepted
returns-in-Err-split_lines-clause-accepted c = λ header body ranges begins line e. no_fault c.args.bytes.now line header body ranges begins (returns-in-Err-split_lines-clause-refused c line e)

pub returns-in-Ok-split_lines-clause-found : goal.returns-in-Ok-split_lines-clause-found
returns-in-Ok-split_lines-clause-found c =
    read_whole c.args.bytes.now c.in-Ok.first.mark c.in-Ok.first.reducer c.in-Ok.first.reducers c.in-Ok.first.progress c.in-Ok.first.rest.now c.in-Ok.ensures _ c.in-Ok-split_lines.splits.rest.now c.in-Ok-split_lines.ensures.found refl refl refl refl refl
