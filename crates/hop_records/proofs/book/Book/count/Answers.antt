use Rattle.std.proofs.Common.{◌≡◌, length, arith, ap}
use Rattle.hop_records.specs.Records.{records_of, BookValue}
use Rattle.hop_records.proofs.EndsLemmas.{length-ends}
use Rattle.hop_records.proofs.book.Book.count.Goals as goal

pub overflow_cast-result : goal.overflow_cast-result
overflow_cast-result c =
    let inside = c.self.inside in
    omega (arith, length-ends inside.bytes.items inside.ends.items c.self.invariant.ends, c.self.invariant.book.few, inside.ends.ok)

pub returns-clause-count : goal.returns-clause-count
returns-clause-count c =
    let inside = c.self.inside in
    let seen : length (records_of inside.bytes.items) ≡ length c.args.self.now.records = ap (λ (book : BookValue). length book.records) c.self.view_is in
    omega (arith, length-ends inside.bytes.items inside.ends.items c.self.invariant.ends, seen, inside.ends.ok, c.len.ensures)
