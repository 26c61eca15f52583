use Rattle.std.proofs.Common.{ℕ, List, sym, subst, arith}
use Rattle.std.proofs.lemmas.List.Elements.{All-weaker}
use Rattle.hop_chain.specs.Chain.{HasShortLines, IsTextOf}
use Rattle.hop_chain.proofs.RecordLaws.{records_joined}
use Rattle.hop_chain.proofs.ReducedLaws.{text_lines}
use Rattle.hop_chain.proofs.chain_laws.texts_are_short.Goals as goal

pub returns : goal.returns
returns g c = λ texts each.
    let meaning = g.J.Job.meaning c.args.job.now in
    let laws = g.met.J.Job.lawful c.args.job.now in
    let lines : (text : List ℕ) → IsTextOf meaning text → HasShortLines 65556 text =
    λ text h. subst (HasShortLines 65556) (sym h.is) (text_lines meaning laws 65535 (omega arith) h.records h.short h.partition h.partitions) in
    records_joined 65556 texts (All-weaker (IsTextOf meaning) (HasShortLines 65556) lines texts each)
