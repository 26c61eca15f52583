use Rattle.std.proofs.Common.{◌≡◌, ℕ, suc, ◌+◌, List, [], ◌∷◌, ◌++◌, length, map, drop, get_or, sym, ap, ◌∙◌, Bor, arith, length-append}
use Rattle.std.proofs.Math.Seq.{drop-cons}
use Rattle.hop_base.specs.Ranges.{last_mark}
use Rattle.hop_words.specs.Marks.{marks_above}
use Rattle.hop_words.proofs.MarksLaws.{found_between, last_mark_more, mark_first, with_marks}
use Rattle.hop_words.proofs.marks.ascending.Goals as goal

pub loop-text-preserved : goal.loop-text-preserved
loop-text-preserved c =
    let texts : List (Bor (List ℕ)) = c.args.texts.now in
    let i : ℕ = c.loop-text.text-index in
    let low : ℕ = c.loop-text.low in
    let mark : ℕ = c.in-Some.mark in
    let marks : List ℕ = c.loop-text.marks in
    let more : c.push.new.self ≡ marks ++ mark ∷ [] = c.in-Ok.ensures.ok in
    let now : Bor (List ℕ) → List ℕ = λ t. t.now in
    let text : Bor (List ℕ) = get_or texts i (record { ref_ptr = (0, 0); now = [] }) in
    let next : suc i ≡ i + 1 = omega arith in
    let cut : drop i texts ≡ text ∷ drop (i + 1) texts = drop-cons texts i (record { ref_ptr = (0, 0); now = [] }) (omega arith) ∙ ap (λ n. text ∷ drop n texts) next in
    record {
      count = omega (arith, ap length more, length-append marks (mark ∷ []), c.loop-text.invariant.count);
      last = ap last_mark more ∙ last_mark_more marks mark;
      most = (found_between (low + 1) 10000 mark text.now c.in-Some.ensures).1;
      told = c.loop-text.invariant.told
          ∙ ap (λ ts. with_marks marks (marks_above low (map now ts))) cut
          ∙ mark_first marks low mark text.now (map now (drop (i + 1) texts)) c.in-Some.ensures
          ∙ ap (λ ms. with_marks ms (marks_above mark (map now (drop (i + 1) texts)))) (sym more);
    }
