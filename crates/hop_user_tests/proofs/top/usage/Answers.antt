use Rattle.std.proofs.Common.{subst}
use Rattle.std.specs.Prelude.{Option, map}
use Rattle.hop_ports.specs.Clean.{clean_view}
use Rattle.hop_ports.specs.Sinks.{memory_sink}
use Rattle.hop_words.specs.Options.{AskedOptions}
use Rattle.hop_top.specs.Meets.{Meets}
use Rattle.hop_replay.specs.Folders.{Spilling}
use Rattle.hop_top.proofs.CompleteLaws.{nothing_asked}
use Rattle.hop_user_tests.proofs.top.usage.Goals as goal

pub returns : goal.returns
returns g c = λ asks.
    let old = g.F.Folder.seen c.args.folder in
    let new = g.F.Folder.seen c.hop_plain.result.folder in
    let out_old = memory_sink c.args.out.now in
    let out_new = memory_sink c.hop_plain.new.out in
    let s : Spilling = record { before = map clean_view c.args.spills.items; after = map clean_view c.hop_plain.result.spills.items } in
    nothing_asked old new out_old out_new s c.hop_plain.result.answer
    (subst (λ (o : Option AskedOptions). Meets old new out_old out_new s o c.hop_plain.result.answer) asks c.hop_plain.ensures.meets)
