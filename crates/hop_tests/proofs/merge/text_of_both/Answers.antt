use Rattle.std.proofs.Common.{◌≡◌, ◌≤◌, List, ◌++◌, length, ap, ◌∙◌, arith}
use Rattle.std.specs.Prelude.{All}
use Rattle.std.specs.List.{flat_map}
use Rattle.std.proofs.lemmas.List.Elements.{All-weaker}
use Rattle.hop_base.specs.declared.part.Part.{Part}
use Rattle.hop_base.specs.declared.value.Pair.{Pair}
use Rattle.hop_laws.specs.Blocking.{part_pairs}
use Rattle.hop_laws.specs.Groups.{red}
use Rattle.hop_laws.proofs.Emitted.{valid_part}
use Rattle.hop_records.specs.Records.{IsShort}
use Rattle.hop_tests.proofs.merge.text_of_both.Goals as goal

-- each step keeps what the run stands for
pub returns : goal.returns
returns g c =
    let meaning = g.J.Job.meaning c.args.job.now in
    let book = c.args.book.now in
    let pairs_of : Part → List Pair = part_pairs meaning book.records book.split 0 1 in
    let short : All (λ line. length line ≤ 131050) book.records = All-weaker IsShort (λ line. length line ≤ 131050) (λ line h. omega (arith, h)) book.records c.records-known.ensures.known.short in
    let valid = valid_part meaning (g.met.J.Job.lawful c.args.job.now) book.records short book.split 0 1 in
    let merged = c.in_ok-merged.ensures.stands meaning.reduced pairs_of valid c.requires.one c.requires.other in
    let combined = c.in_ok-combined.ensures.stands pairs_of merged in
    let parts : c.in_ok-combined.combined.parts ≡ c.args.one.now.parts ++ c.args.other.now.parts = c.in_ok-combined.ensures.parts ∙ c.in_ok-merged.ensures.parts in
    c.in_ok-text.ensures.stands pairs_of combined ∙ ap (λ ps. red meaning.reduced (flat_map pairs_of ps)) parts
