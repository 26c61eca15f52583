use Rattle.std.proofs.Common.{◌≡◌, ◌≤◌, ◌<◌, ℕ, List, None, Some, ap, subst, ◌∙◌, sym, arith}
use Rattle.hop_base.specs.Run.{RunSettings}
use Rattle.hop_records.specs.Records.{BookValue, IsBook, first_long, records_of, spill_count, splits_of}
use Rattle.hop_records.proofs.EndsLemmas.{first_long-none}
use Rattle.hop_words.specs.Options.{settings_of}
use Rattle.hop_top.specs.Plans.{book_read}
use Rattle.hop_top.specs.declared.outcome.Outcome.TheVariants as outcome
use Rattle.hop_top.specs.declared.outcome.Refusal.TheVariants as refusal
use Rattle.hop_top.proofs.RefusalLaws.{not_refused, spills_refused}
use Rattle.hop_top.proofs.check.read_book.Goals as goal

-- what a book that was read tells of its input
no_long : (settings : RunSettings) (input : List ℕ) (book : BookValue) → book ≡ book_read settings input → IsBook book → first_long (records_of input) ≡ None
no_long settings input book e known = subst (λ (b : BookValue). first_long b.records ≡ None) e (first_long-none 0 book.records known.short)

few_splits : (settings : RunSettings) (input : List ℕ) (book : BookValue) → book ≡ book_read settings input → IsBook book → splits_of (book_read settings input) ≤ 1024
few_splits settings input book e known = subst (λ (b : BookValue). splits_of b ≤ 1024) e known.splits

pub returns-then-count-gt-MAX_SPILLS-clause-refused : goal.returns-then-count-gt-MAX_SPILLS-clause-refused
returns-then-count-gt-MAX_SPILLS-clause-refused c =
    let settings = settings_of c.args.settings.now in
    let input = c.args.input.items in
    let book = c.in-Ok.book in
    let count : c.spills-count.result ≡ spill_count (book_read settings input) settings.spill = c.spills-count.ensures ∙ ap (λ (b : BookValue). spill_count b settings.spill) c.in-Ok.ensures.value in
    let many : 65536 < spill_count (book_read settings input) settings.spill = omega (arith, c.if-count-gt-MAX_SPILLS.true, count) in
    spills_refused settings input (no_long settings input book c.in-Ok.ensures.value c.in-Ok.ensures.accepted) (few_splits settings input book c.in-Ok.ensures.value c.in-Ok.ensures.accepted) many
    ∙ ap (λ n. Some (outcome.InputRefused (refusal.TooManySpills n))) (sym count)

pub returns-clause-accepted : goal.returns-clause-accepted
returns-clause-accepted c =
    let settings = settings_of c.args.settings.now in
    let input = c.args.input.items in
    let book = c.in-Ok.book in
    let count : c.spills-count.result ≡ spill_count (book_read settings input) settings.spill = c.spills-count.ensures ∙ ap (λ (b : BookValue). spill_count b settings.spill) c.in-Ok.ensures.value in
    let few : spill_count (book_read settings input) settings.spill ≤ 65536 = omega (arith, c.if-count-gt-MAX_SPILLS.false, count) in
    not_refused settings input (no_long settings input book c.in-Ok.ensures.value c.in-Ok.ensures.accepted) (few_splits settings input book c.in-Ok.ensures.value c.in-Ok.ensures.accepted) few
