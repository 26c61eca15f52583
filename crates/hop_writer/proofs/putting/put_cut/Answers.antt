use Rattle.std.proofs.Common.{refl, ap, ◌∙◌}
use Rattle.std.specs.Prelude.{is_some}
use Rattle.hop_inner.specs.Messages.{said_cut}
use Rattle.hop_writer.specs.Snapshots.{snap_body, snap_header}
use Rattle.hop_writer.specs.Puts.{files_in}
use Rattle.hop_writer.proofs.PutsLemmas.{told_still, told_first}
use Rattle.hop_writer.proofs.putting.put_cut.Goals as goal

-- the cut has a snapshot, though none was made
pub returns-in_default-clause-left : goal.returns-in_default-clause-left
returns-in_default-clause-left g c =
    let R = g.N.RunName in let cut = said_cut c.args.cut.now in let p = c.args.p in
    record { snap = record { header = snap_header R.job R.records R.settings p cut; body = snap_body R.job R.records R.settings p cut }; is = record { header_is = refl; right = λ t. refl }; count = 0; held = refl }

pub returns-in-Ok-put_files-clause-answered : goal.returns-in-Ok-put_files-clause-answered
returns-in-Ok-put_files-clause-answered g c =
    let e = c.in-Ok-put_files.ensures in
    λ i. record { tells = (ap is_some e.done ∙ told_still (g.F.Folder.seen c.args.folder.now).held (files_in c.deref.result.now)) i; gets = e.counts.gets i; puts = e.no_fault i }

pub returns-in-Err-Failed-clause-cause : goal.returns-in-Err-Failed-clause-cause
returns-in-Err-Failed-clause-cause g c =
    let e = c.in-Err-Failed.ensures in let cause = rw c.in-Err-Failed.field-0-is at e.cause in
    record { tells = told_first (g.F.Folder.seen c.args.folder.now) (g.F.Folder.seen c.put_files.new.folder) (files_in c.deref.result.now) cause.1; gets = e.counts.gets; puts = cause.0 }

pub returns-clause-cause : goal.returns-clause-cause
returns-clause-cause g c =
    let e = c.in-Err-NoMemory.ensures in let cause = rw c.in-Err-NoMemory.field-0-is at e.cause in
    let tells = told_first (g.F.Folder.seen c.args.folder.now) (g.F.Folder.seen c.put_files.new.folder) (files_in c.deref.result.now) cause.0 in
    λ i. record { tells = tells i; gets = e.counts.gets i; puts = cause.1 i }
