use Rattle.std.proofs.Common.{arith}
use Rattle.hop_cut.proofs.LineLaws.{words_second, words_third, words_last}
use Rattle.hop_cut.proofs.lines.split_words.Goals as goal
use Rattle.hop_cut.proofs.lines.split_words.Goals.{then-attempt-via-then-attempt, then-attempt-via-else-attempt+then-records-eq0, then-attempt-via-else-attempt+else-records-eq0+then-records-len, then-attempt-via-else-attempt+else-records-eq0+else-records-len+then-len-gt-MAX_RECORDS}

pub returns-in_default-numbered : goal.returns-in_default-numbered
returns-in_default-numbered c = λ s rest h.
    c.in_default-numbered.ensures s.declared.records _ (words_second c.args.text.now s rest h c.in-Some.attempt c.in-Some.text.now c.in-Some.ensures).1

pub returns-in_default-numbered-2 : goal.returns-in_default-numbered-2
returns-in_default-numbered-2 c = λ s rest h.
    c.in_default-numbered-2.ensures s.len _ (words_third c.args.text.now s rest h c.in-Some.attempt c.in-Some.text.now c.in-Some-numbered.records c.in-Some-numbered.text.now c.in-Some.ensures c.in-Some-numbered.ensures).1

pub returns-then-attempt : goal.returns-then-attempt
returns-then-attempt c = λ s rest h.
    let a = (words_second c.args.text.now s rest h c.in-Some.attempt c.in-Some.text.now c.in-Some.ensures).0 in
    let r = (words_third c.args.text.now s rest h c.in-Some.attempt c.in-Some.text.now c.in-Some-numbered.records c.in-Some-numbered.text.now c.in-Some.ensures c.in-Some-numbered.ensures).0 in
    let n = (words_last c.args.text.now s rest h c.in-Some.attempt c.in-Some.text.now c.in-Some-numbered.records c.in-Some-numbered.text.now c.in-Some-numbered-2.len c.in-Some-numbered-2.text.now c.in-Some.ensures c.in-Some-numbered.ensures c.in-Some-numbered-2.ensures).0 in
    elim c.then-attempt.branch [
      | then-attempt-via-then-attempt w ↦ omega (arith, a, h.ranges.attempt)
      | then-attempt-via-else-attempt+then-records-eq0 w ↦ omega (arith, r, h.ranges.some)
      | then-attempt-via-else-attempt+else-records-eq0+then-records-len w ↦ omega (arith, r, n, h.ranges.within)
      | then-attempt-via-else-attempt+else-records-eq0+else-records-len+then-len-gt-MAX_RECORDS w ↦ omega (arith, n, h.ranges.len)
    ]

pub returns-in_default-kind_words : goal.returns-in_default-kind_words
returns-in_default-kind_words c = λ s rest h.
    c.in_default-kind_words.ensures s.declared.committed rest (words_last c.args.text.now s rest h c.in-Some.attempt c.in-Some.text.now c.in-Some-numbered.records c.in-Some-numbered.text.now c.in-Some-numbered-2.len c.in-Some-numbered-2.text.now c.in-Some.ensures c.in-Some-numbered.ensures c.in-Some-numbered-2.ensures).1
