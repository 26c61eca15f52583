use Rattle.std.proofs.Common.{◌≤◌, ◌-◌, length, drop, arith}
use Rattle.std.proofs.lemmas.List.{take_all, length-drop}
use Rattle.hop_records.proofs.Cuts.{record_to_line, record_to_end}
use Rattle.hop_records.proofs.ends.next_end.Goals as goal

pub returns-in-Some-clause-first : goal.returns-in-Some-clause-first
returns-in-Some-clause-first c =
    let bytes = c.args.bytes.now in
    let whole : length (drop c.args.start bytes) ≤ length bytes - c.args.start = omega (arith, length-drop c.args.start bytes) in
    let found = rw (take_all (length bytes - c.args.start) (drop c.args.start bytes) whole) at c.in-Some.ensures in
    record_to_line bytes c.args.start c.in-Some.k found.0 found.1

pub returns-in-None-clause-first : goal.returns-in-None-clause-first
returns-in-None-clause-first c =
    let bytes = c.args.bytes.now in
    let whole : length (drop c.args.start bytes) ≤ length bytes - c.args.start = omega (arith, length-drop c.args.start bytes) in
    let none = rw (take_all (length bytes - c.args.start) (drop c.args.start bytes) whole) at c.in-None.ensures in
    record_to_end bytes c.args.start c.requires none
