use Rattle.std.proofs.Common.{◌≡◌, length, arith, ap}
use Rattle.hop_records.specs.Records.{records_of, BookValue}
use Rattle.hop_records.proofs.EndsLemmas.{length-ends}
use Rattle.hop_records.proofs.SplitsLemmas.{record_short}
use Rattle.hop_records.proofs.book.Book.record.Goals as goal

pub record_of-requires-clause-within : goal.record_of-requires-clause-within
record_of-requires-clause-within c =
    let inside = c.self.inside in
    let seen : length (records_of inside.bytes.items) ≡ length c.args.self.now.records = ap (λ (book : BookValue). length book.records) c.self.view_is in
    omega (arith, length-ends inside.bytes.items inside.ends.items c.self.invariant.ends, seen, c.requires, ap length c.deref-2.ensures.value)

pub returns-clause-short : goal.returns-clause-short
returns-clause-short c =
    record_short (records_of c.self.inside.bytes.items) c.args.k c.record_of.result.now c.self.invariant.book.short (rw c.deref.ensures.value at c.record_of.ensures)
