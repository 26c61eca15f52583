use Rattle.std.proofs.Common.{◌≡◌, ℕ, ◌≤◌, List, Option, None, Some, [], length, ap, subst, ◌∙◌, arith, rules}
use Rattle.std.specs.Option.{IfSome}
use Rattle.std.specs.FinMap as map
use Rattle.hop_base.specs.Files.{Files}
use Rattle.hop_base.specs.Run.{RunSettings}
use Rattle.hop_jobs.specs.Known.{known_meaning}
use Rattle.hop_laws.specs.Blocking.{blocking_texts}
use Rattle.hop_records.specs.Records.{first_long, records_of}
use Rattle.hop_records.proofs.EndsLemmas.{first_long-none}
use Rattle.hop_top.specs.Puts.{files_in, part_files}
use Rattle.hop_top.specs.Work.{block_summary}
use Rattle.hop_top.proofs.MeetsLemmas.{meets_at_end, may_block}
use Rattle.hop_top.proofs.PartLaws.{blocking_texts-length, one_split}
use Rattle.hop_top.proofs.block.block.Goals as goal

-- what was read under the name
found : (held : Option Files) (name input bytes : List ℕ) (most : ℕ) → name ≡ input → IfSome held (λ files. (map.get files name ≡ Some bytes) × (length bytes ≤ most)) → IfSome held (λ files. map.get files input ≡ Some bytes)
found None name input bytes most e h = h
found (Some files) name input bytes most e h = rw (← e) h.0

-- all records stand in one split
pub unreachable-requires : goal.unreachable-requires
unreachable-requires g c =
    let cause = rw c.in-Err-TooManySplits.field-0-is at c.in-Err-TooManySplits.ensures.cause in
    let short : length c.in-Ok.bytes.items ≤ 16777216 = search rules in
    absurd (one_split c.in-Ok.bytes.items c.in-Err-TooManySplits.field-0-0 short cause.1 cause.2)

pub part_files-requires : goal.part_files-requires
part_files-requires g c =
    omega (arith, c.args.settings.now.few_reducers, ap {B = _} length c.in-Ok-block.ensures, blocking_texts-length (known_meaning c.args.job.now) c.in-Ok-from_vec.book.records c.args.settings.now.reducers)

pub returns-clause-meets : goal.returns-clause-meets
returns-clause-meets g c = λ s options is settings_are.
    let reducers = c.args.settings.now.reducers in
    let old = g.F.Folder.seen c.args.folder.now in
    let middle = g.F.Folder.seen c.read_file.new.folder in
    let bytes = c.in-Ok.bytes.items in
    let meaning = known_meaning c.args.job.now in
    let short : length bytes ≤ 16777216 = search rules in
    let kept : c.in-Ok-from_vec.book.records ≡ records_of bytes = search rules in
    let none : first_long (records_of bytes) ≡ None = subst (λ rs. first_long rs ≡ None) kept (first_long-none 0 c.in-Ok-from_vec.book.records c.in-Ok-from_vec.ensures.accepted.short) in
    let texts : c.in-Ok-block.texts ≡ blocking_texts meaning (records_of bytes) reducers = c.in-Ok-block.ensures ∙ ap (λ rs. blocking_texts meaning rs reducers) kept in
    let files : files_in c.deref.result.now ≡ part_files 0 (blocking_texts meaning (records_of bytes) reducers) = ap files_in c.deref.ensures.value ∙ c.in-Ok-part_files.ensures ∙ ap (part_files 0) texts in
    let summary : c.as_str.result.now ≡ block_summary (length (records_of bytes)) reducers =
    c.as_str.ensures.value ∙ c.in-Ok-summary.ensures ∙ ap (λ n. block_summary n reducers) (c.records.ensures.count ∙ ap length kept) in
    let may = may_block old s options meaning reducers c.args.input.now bytes _ _ is (ap (λ (o : RunSettings). o.reducers) settings_are)
    (found old.held c.file_name.result.now c.args.input.now bytes 16777216 c.file_name.ensures c.in-Ok.ensures.read) short none files summary in
    meets_at_end old middle (g.F.Folder.seen c.hand_out.new.folder) (g.O.Sink.seen c.args.out.now) (g.O.Sink.seen c.hand_out.new.out) s options
    [] _ _ c.hand_out.result may c.in-Ok.ensures.left.held (omega (arith, c.in-Ok.ensures.left.puts)) c.hand_out.ensures.hands
