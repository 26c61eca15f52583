use Rattle.std.proofs.Common.{arith}
use Rattle.std.specs.Prelude.{map}
use Rattle.hop_ports.specs.Clean.{clean_view}
use Rattle.hop_ports.specs.Sinks.{memory_sink}
use Rattle.hop_replay.specs.Folders.{Spilling}
use Rattle.hop_top.proofs.CompleteLaws.{no_input_fails}
use Rattle.hop_user_tests.proofs.top.over_clean_present.Goals as goal

pub returns : goal.returns
returns c = λ options files file asks held read e.
    let meets = rw asks at c.hop_plain.ensures.meets in
    let s : Spilling = record { before = map clean_view c.args.spills.items; after = map clean_view c.hop_plain.result.spills.items } in
    no_input_fails (clean_view c.args.folder) (clean_view c.hop_plain.result.folder) (memory_sink c.args.out.now) (memory_sink c.hop_plain.new.out) s options files held c.hop_plain.result.answer meets read (λ rose. omega (arith, rose)) file e
