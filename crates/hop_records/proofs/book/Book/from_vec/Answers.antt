use Rattle.std.proofs.Common.{◌≡◌, ◌≤◌, length, arith, All, ap}
use Rattle.hop_records.specs.Records.{records_of, IsShort}
use Rattle.hop_records.specs.Ends.{AreEnds}
use Rattle.hop_records.proofs.EndsLemmas.{length-ends, first_long-none}
use Rattle.hop_records.proofs.book.Book.from_vec.Goals as goal

pub returns-then-count-gt-MAX_SPLITS-clause-cause : goal.returns-then-count-gt-MAX_SPLITS-clause-cause
returns-then-count-gt-MAX_SPLITS-clause-cause c =
    let bytes = c.args.bytes.items in
    let short : All IsShort (records_of bytes) = rw c.deref.ensures.value at c.in-Ok.ensures.short in
    let ends : AreEnds bytes c.in-Ok.ends.items = rw c.deref.ensures.value at c.in-Ok.ensures.ends in
    let count : c.len.result ≡ length (records_of bytes) = omega (arith, length-ends bytes c.in-Ok.ends.items ends, c.len.ensures, c.in-Ok.ends.ok) in
    (first_long-none 0 (records_of bytes) short, rw count at c.div_ceil-count.ensures, c.if-count-gt-MAX_SPLITS.true)

pub invariant_of-result : goal.invariant_of-result
invariant_of-result c =
    let bytes = c.args.bytes.items in
    let short : All IsShort (records_of bytes) = rw c.deref.ensures.value at c.in-Ok.ensures.short in
    let ends : AreEnds bytes c.in-Ok.ends.items = rw c.deref.ensures.value at c.in-Ok.ensures.ends in
    let count : c.len.result ≡ length (records_of bytes) = omega (arith, length-ends bytes c.in-Ok.ends.items ends, c.len.ensures, c.in-Ok.ends.ok) in
    let splits = rw count at c.div_ceil-count.ensures in
    let few : length (records_of bytes) ≤ 16777216 = omega (arith, count, c.len.ensures, c.in-Ok.ensures.few, c.requires.few, c.args.bytes.ok, ap length c.deref.ensures.value) in
    record {
      small = omega (arith, c.requires.few, c.args.bytes.ok);
      ends = ends;
      book = record { short = short; few = few; some = c.requires.some; splits = omega (arith, splits, c.if-count-gt-MAX_SPLITS.false) };
    }

pub returns-clause-accepted : goal.returns-clause-accepted
returns-clause-accepted c =
    let bytes = c.args.bytes.items in
    let short : All IsShort (records_of bytes) = rw c.deref.ensures.value at c.in-Ok.ensures.short in
    let ends : AreEnds bytes c.in-Ok.ends.items = rw c.deref.ensures.value at c.in-Ok.ensures.ends in
    let count : c.len.result ≡ length (records_of bytes) = omega (arith, length-ends bytes c.in-Ok.ends.items ends, c.len.ensures, c.in-Ok.ends.ok) in
    let splits = rw count at c.div_ceil-count.ensures in
    let few : length (records_of bytes) ≤ 16777216 = omega (arith, count, c.len.ensures, c.in-Ok.ensures.few, c.requires.few, c.args.bytes.ok, ap length c.deref.ensures.value) in
    record { short = short; few = few; some = c.requires.some; splits = omega (arith, splits, c.if-count-gt-MAX_SPLITS.false) }
