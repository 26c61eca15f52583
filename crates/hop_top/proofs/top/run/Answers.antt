use Rattle.std.proofs.Common.{map, refl, ap}
use Rattle.hop_replay.specs.Folders.{Spilling}
use Rattle.hop_words.specs.Options.{command_of, options_of}
use Rattle.hop_top.proofs.top.run.Goals as goal

pub returns-in-Block-clause-meets : goal.returns-in-Block-clause-meets
returns-in-Block-clause-meets g c =
    let s : Spilling = record { before = map g.V.Folder.seen c.args.spills.now.items; after = map g.V.Folder.seen c.args.spills.now.items } in
    c.block-outcome.ensures.meets s (options_of c.args.options.now) (ap command_of c.in-Block.is) refl
