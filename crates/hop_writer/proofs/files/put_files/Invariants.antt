use Rattle.std.proofs.Common.{◌≡◌, take}
use Rattle.hop_ports.specs.Causes.{OnlyPut}
use Rattle.hop_writer.specs.Puts.{files_in, with_files}
use Rattle.hop_writer.proofs.files.put_files.Given as goal

abbrev pub invariant-loop-file : goal.invariant-loop-file
invariant-loop-file g l =
    OnlyPut (g.F.Folder.seen l.initial.folder) (g.F.Folder.seen l.folder)
    × ((g.F.Folder.seen l.folder).puts ≡ (g.F.Folder.seen l.initial.folder).puts)
    × ((g.F.Folder.seen l.folder).held ≡ with_files (g.F.Folder.seen l.initial.folder).held (files_in (take l.file-index l.files)))
