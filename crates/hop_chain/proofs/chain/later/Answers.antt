use Rattle.std.proofs.Common.{◌≡◌, ℕ, ◌+◌, ◌*◌, ◌≤◌, List, [], ◌∷◌, ◌++◌, map, drop, sym, ap, subst, ◌∙◌, arith}
use Rattle.hop_fold.specs.Within.{records_within}
use Rattle.hop_jobs.specs.Known.{known_meaning}
use Rattle.hop_jobs.specs.KnownLaws.{known_lawful}
use Rattle.hop_jobs.specs.declared.known.Known.{Known}
use Rattle.hop_records.specs.Records.{records_of}
use Rattle.std.specs.List.{concat}
use Rattle.hop_chain.specs.Chain.{HasShortRecords, chained_first, chained_texts, last_texts, later_texts, next_texts}
use Rattle.hop_chain.proofs.ChainLaws.{first_records, last_more, one_later}
use Rattle.hop_chain.proofs.ReducedLaws.{texts_short}
use Rattle.hop_chain.proofs.chain.later.Goals as goal

pub loop-job-init : goal.loop-job-init
loop-job-init c =
    let r : ℕ = c.args.r in
    let first : Known = c.in-Some.first.now in
    let others : List Known = c.in-Some.others.now in
    let texts : List (List ℕ) = chained_first (known_meaning first) c.args.texts.now r in
    let more : c.push.new.self.items ≡ texts ∷ [] = c.in_ok-push.ensures.items ∙ (λ j. c.new-all.ensures.items j ++ c.in_ok-read.ensures j ∷ []) in
    let last : last_texts c.args.texts.now c.push.new.self.items ≡ texts = ap (last_texts c.args.texts.now) more in
    record {
      told = ap (λ js. chained_texts (map known_meaning js) c.args.texts.now r) c.in-Some.ensures.cases.0
          ∙ (λ j. sym more j ++ later_texts (map known_meaning others) (sym last j) r);
      short = subst (HasShortRecords 65577) (sym last) (texts_short (known_meaning first) (known_lawful first) 65556 (omega arith) (records_within 65556 c.args.texts.now) (first_records c.args.texts.now) r);
    }

pub loop-job-preserved : goal.loop-job-preserved
loop-job-preserved c =
    let jobs : List Known = c.in-Some.others.now in
    let r : ℕ = c.args.r in
    let i : ℕ = c.loop-job.job-index in
    let all : List (List (List ℕ)) = c.loop-job.all.items in
    let job : Known = c.job-item.result in
    let before : List (List ℕ) = last_texts c.args.texts.now all in
    let texts : List (List ℕ) = next_texts (known_meaning job) before r in
    let read : c.last_of-before.result.now ≡ before = c.last_of-before.ensures ∙ ap (last_texts c.args.texts.now) c.deref.ensures.value in
    let made : c.in_ok-next.next ≡ texts = c.in_ok-next.ensures ∙ ap (λ ts. next_texts (known_meaning job) ts r) read in
    let more : c.push-in-loop-job.new.self.items ≡ all ++ texts ∷ [] = c.in_ok-push-2.ensures.items ∙ ap (λ ts. all ++ ts ∷ []) made in
    let last : last_texts c.args.texts.now c.push-in-loop-job.new.self.items ≡ texts = ap (last_texts c.args.texts.now) more ∙ last_more c.args.texts.now texts all in
    let grown : 65577 + 21 * i + 21 ≡ 65577 + 21 * (i + 1) = omega arith in
    let few : 65577 + 21 * i ≤ 131050 = omega (arith, c.requires.few, c.in-Some.ensures.cases.1, c.loop-job-test.true) in
    let short : HasShortRecords (65577 + 21 * (i + 1)) texts =
    subst (λ n. HasShortRecords n texts) grown (texts_short (known_meaning job) (known_lawful job) (65577 + 21 * i) few (records_of (concat before)) c.loop-job.invariant.short r) in
    record {
      told = c.loop-job.invariant.told
          ∙ one_later jobs i r job before all (omega arith) (sym c.job-item.is)
          ∙ (λ j. sym more j ++ later_texts (map known_meaning (drop (i + 1) jobs)) (sym last j) r);
      short = subst (HasShortRecords (65577 + 21 * (i + 1))) (sym last) short;
    }
