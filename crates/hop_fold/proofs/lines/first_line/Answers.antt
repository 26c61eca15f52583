use Rattle.std.proofs.Common.{◌≡◌, ℕ, ◌+◌, List, [], ◌∷◌, length, drop, sym, ap, ◌∙◌, arith}
use Rattle.std.proofs.lemmas.List.{take_all, drop_all}
use Rattle.hop_records.specs.Records.{records_of}
use Rattle.hop_fold.proofs.LineLaws.{first_of_lines, only_line}
use Rattle.hop_fold.proofs.lines.first_line.Goals as goal

pub returns-in-Some-clause-cut : goal.returns-in-Some-clause-cut
returns-in-Some-clause-cut c =
    let bytes : List ℕ = c.args.bytes.now in
    first_of_lines bytes c.in-Some.end c.in-Some.ensures.0.high (λ j lt. c.in-Some.ensures.0.before j (omega arith) lt) c.in-Some.ensures.1
    ∙ ap (λ xs. xs ∷ records_of (drop (c.in-Some.end + 1) bytes)) (sym c.split_at.ensures.front)
    ∙ ap (λ xs. c.split_at.result.0.now ∷ records_of xs) (sym c.split_at-in-Some.ensures.back)

pub returns-in-None-clause-cut : goal.returns-in-None-clause-cut
returns-in-None-clause-cut c =
    let bytes : List ℕ = c.args.bytes.now in
    let front : bytes ≡ c.split_at-in-None.result.0.now = sym (c.split_at-in-None.ensures.front ∙ take_all (length bytes) bytes (omega arith)) in
    let back : [] ≡ c.split_at-in-None.result.1.now = sym (c.split_at-in-None.ensures.back ∙ drop_all (length bytes) bytes (omega arith)) in
    only_line bytes c.requires (λ j lt. c.in-None.ensures j (omega arith) lt)
    ∙ ap (λ xs. xs ∷ []) front
    ∙ ap (λ xs. c.split_at-in-None.result.0.now ∷ records_of xs) back
