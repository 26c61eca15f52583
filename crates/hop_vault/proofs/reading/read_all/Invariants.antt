use Rattle.std.proofs.Common.{◌≡◌, take}
use Rattle.hop_ports.specs.Causes.{OnlyRead}
use Rattle.hop_vault.specs.Stored.{AreFetched}
use Rattle.hop_vault.proofs.reading.read_all.Given as goal

abbrev pub invariant-loop-kept : goal.invariant-loop-kept
invariant-loop-kept g l =
    let seen = g.V.Folder.seen in
    record {
      left : OnlyRead (seen l.fn.folder) (seen l.folder);
      no_fault : (seen l.folder).gets ≡ (seen l.fn.folder).gets;
      each : AreFetched (seen l.fn.folder).held l.split l.attempt l.p (take l.kept-index l.spills) l.sheets;
    }
