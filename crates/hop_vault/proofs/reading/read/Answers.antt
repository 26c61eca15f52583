use Rattle.std.proofs.Common.{◌≡◌, ℕ, List, Some, subst, sym}
use Rattle.std.specs.Prelude.{IfSome}
use Rattle.std.specs.FinMap as map
use Rattle.hop_spill.specs.SpillFiles.{name_of}
use Rattle.hop_vault.proofs.ReadLaws.{read_cause}
use Rattle.hop_vault.proofs.reading.read.Goals as goal

pub returns-clause-cause : goal.returns-clause-cause
returns-clause-cause g c =
    let found = subst (λ (bytes : List ℕ). IfSome (g.V.Folder.seen c.args.folder.now).held (λ files. map.get files (name_of c.args.split c.args.attempt c.args.kept.now.from) ≡ Some bytes)) (sym c.deref.ensures.value) c.in_ok-bytes.ensures.found in
    read_cause c.args.split c.args.attempt c.args.p c.args.kept.now c.deref.result.now c.requires.within (g.V.Folder.seen c.args.folder.now) (g.V.Folder.seen c.got.new.folder) c.opened.result c.requires.stored found c.opened.ensures.cause
