use Rattle.std.proofs.Common.{inr, get_or, ◌∙◌}
use Rattle.std.proofs.lemmas.List.Elements.{Contains-get_or}
use Rattle.hop_vault.specs.declared.kept.Kept.{Kept}
use Rattle.hop_vault.specs.Rows.{range_of}
use Rattle.hop_vault.proofs.StretchLaws.{no_kept}
use Rattle.std.proofs.lemmas.Result.{err_from_is_err_and}
use Rattle.hop_vault.proofs.ReadLaws.{answered_from_start, held_at, cause_from_start, OnlyRead-trans, fetched_more}
use Rattle.hop_vault.proofs.reading.read_all.Goals as goal

pub read-requires-clause-stored : goal.read-requires-clause-stored
read-requires-clause-stored g c =
    held_at (g.V.Folder.seen c.args.folder.now).held (g.V.Folder.seen c.loop-kept.folder).held c.args.split c.args.attempt c.args.spills.now c.loop-kept.kept-index _ c.loop-kept.invariant.left.held c.requires.stored c.loop-kept-test.true

pub returns-in_err-sheet-clause-cause : goal.returns-in_err-sheet-clause-cause
returns-in_err-sheet-clause-cause g c =
    let p = err_from_is_err_and c.from_residual.result c.from_residual.ensures.1 in
    let at = c.loop-kept.kept-index in
    let kept : Kept = get_or c.args.spills.now at no_kept in
    let cause = cause_from_start (g.V.Folder.seen c.args.folder.now) (g.V.Folder.seen c.loop-kept.folder) (g.V.Folder.seen c.read.new.folder) (range_of c.args.split c.args.attempt kept) c.args.p kept.digest c.in_err-sheet.field-0.0 c.loop-kept.invariant.left c.in_err-sheet.ensures.cause in
    rw (p.1, p.2) (inr (kept, Contains-get_or c.args.spills.now at no_kept c.loop-kept-test.true, cause))

pub returns-in_err-sheet-clause-answered : goal.returns-in_err-sheet-clause-answered
returns-in_err-sheet-clause-answered g c =
    let p = err_from_is_err_and c.from_residual.result c.from_residual.ensures.1 in
    rw (p.1, p.2) (answered_from_start (g.V.Folder.seen c.args.folder.now) (g.V.Folder.seen c.loop-kept.folder) (g.V.Folder.seen c.read.new.folder) c.in_err-sheet.field-0.0 c.loop-kept.invariant.no_fault c.in_err-sheet.ensures.answered)

pub loop-kept-preserved : goal.loop-kept-preserved
loop-kept-preserved g c = record {
  left = OnlyRead-trans (g.V.Folder.seen c.args.folder.now) (g.V.Folder.seen c.loop-kept.folder) (g.V.Folder.seen c.read.new.folder) c.loop-kept.invariant.left c.read.ensures.left;
  no_fault = c.in_ok-sheet.ensures.no_fault ∙ c.loop-kept.invariant.no_fault;
  each = rw c.in-Ok.ensures.ok (fetched_more (g.V.Folder.seen c.args.folder.now).held (g.V.Folder.seen c.loop-kept.folder).held c.args.split c.args.attempt c.args.p c.args.spills.now c.loop-kept.kept-index no_kept c.loop-kept.sheets c.in_ok-sheet.sheet c.loop-kept.invariant.left.held c.loop-kept-test.true c.loop-kept.invariant.each c.in_ok-sheet.ensures.found);
}
