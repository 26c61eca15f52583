use Rattle.std.proofs.Common.{◌≡◌, ◌<◌, ◌^◌, sym, ap, subst, ◌∙◌, arith, decimal}
use Rattle.std.specs.Str.{IsUtf8}
use Rattle.std.proofs.lemmas.Bool.{true≢false}
use Rattle.std.proofs.lemmas.Fmt.{parse-decimal}
use Rattle.hop_cut.proofs.NumberLaws.{decimal_text, bytes_equal}
use Rattle.hop_cut.proofs.numbers.value.Goals as goal

pub returns-in_default : goal.returns-in_default
returns-in_default c = λ n h e. c.in_default.ensures.cases.0 (subst IsUtf8 (sym e) (decimal_text n h))

pub returns-in_default-parse : goal.returns-in_default-parse
returns-in_default-parse c = λ n h e.
    let wide : n < 2 ^ 64 = omega arith in
    c.in_default-parse.not-Ok n (parse-decimal 32 n c.in-Ok.text.now c.parse.result h wide (c.in-Ok.ensures.cases.0 ∙ e) c.parse.ensures.value.0)

pub returns-else-eq : goal.returns-else-eq
returns-else-eq c = λ n h e.
    let wide : n < 2 ^ 64 = omega arith in
    let read = parse-decimal 32 n c.in-Ok.text.now c.parse.result h wide (c.in-Ok.ensures.cases.0 ∙ e) c.parse.ensures.value.0 in
    let same : c.in-Ok-parse.n ≡ n = cc in
    let written = c.as_bytes.ensures.value ∙ c.format.ensures.text ∙ ap decimal same ∙ sym e in
    true≢false (sym (bytes_equal c.as_bytes.result.now c.args.digits.now written) ∙ sym c.eq.ensures ∙ c.if-eq.false)
