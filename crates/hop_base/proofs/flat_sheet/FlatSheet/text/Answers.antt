use Rattle.std.proofs.Common.{◌≡◌, ◌+◌, ◌-◌, ◌<◌, ◌≤◌, List, ℕ, length, drop, get_or, sym, ap, subst, ◌∙◌, arith}
use Rattle.std.proofs.lemmas.List.{length-map}
use Rattle.hop_base.specs.declared.value.Pair.{Pair}
use Rattle.hop_base.specs.Fields.{pair_front, pair_text}
use Rattle.hop_base.specs.Flat.{pairs_in}
use Rattle.hop_base.proofs.FlatLaws.{start_within, text_cut, text_within, text_last}
use Rattle.hop_base.proofs.flat_sheet.FlatSheet.text.Goals as goal

pub split_at-requires : goal.split_at-requires
split_at-requires c =
    let bytes : List ℕ = c.self.inside.bytes in
    let starts : List ℕ = c.self.inside.starts.items in
    let inside : c.args.k < length (pairs_in bytes starts) = subst (λ (ps : List Pair). c.args.k < length ps) (sym c.self.view_is) c.requires in
    let at : c.index-at.result.now ≤ length bytes = subst (λ (n : ℕ). n ≤ length bytes) (sym c.index-at.ensures) (start_within bytes starts (pairs_in bytes starts) c.args.k c.index-at.result.now c.self.invariant.flat inside) in
    subst (λ (b : List ℕ). c.index-at.result.now ≤ length b) (sym c.as_slice.ensures) at

pub overflow_sub-index : goal.overflow_sub-index
overflow_sub-index c =
    let bytes : List ℕ = c.self.inside.bytes in
    let starts : List ℕ = c.self.inside.starts.items in
    let more : c.args.k + 1 < length (pairs_in bytes starts) = omega (arith, length-map starts (λ at. pair_front (drop at bytes))) in
    let rest = c.split_at.ensures.back ∙ ap (drop c.index-at.result.now) c.as_slice.ensures in
    let next : c.index.result.now ≡ get_or starts (c.args.k + 1) c.index.result.now = c.index.ensures in
    omega (arith, next, (text_within bytes starts c.split_at.result.1.now (pairs_in bytes starts) c.args.k c.index.result.now c.index-at.result.now c.index-at.result.now c.self.invariant.flat more c.index-at.ensures rest).0)

pub split_at-requires-then-next-len : goal.split_at-requires-then-next-len
split_at-requires-then-next-len c =
    let bytes : List ℕ = c.self.inside.bytes in
    let starts : List ℕ = c.self.inside.starts.items in
    let more : c.args.k + 1 < length (pairs_in bytes starts) = omega (arith, length-map starts (λ at. pair_front (drop at bytes))) in
    let rest = c.split_at.ensures.back ∙ ap (drop c.index-at.result.now) c.as_slice.ensures in
    let next : c.index.result.now ≡ get_or starts (c.args.k + 1) c.index.result.now = c.index.ensures in
    omega (arith, next, (text_within bytes starts c.split_at.result.1.now (pairs_in bytes starts) c.args.k c.index.result.now c.index-at.result.now c.index-at.result.now c.self.invariant.flat more c.index-at.ensures rest).1)

pub returns-then-next-len : goal.returns-then-next-len
returns-then-next-len c = λ d.
    let bytes : List ℕ = c.self.inside.bytes in
    let starts : List ℕ = c.self.inside.starts.items in
    let ps : List Pair = pairs_in bytes starts in
    let more : c.args.k + 1 < length ps = omega (arith, length-map starts (λ at. pair_front (drop at bytes))) in
    let rest = c.split_at.ensures.back ∙ ap (drop c.index-at.result.now) c.as_slice.ensures in
    let next : c.index.result.now ≡ get_or starts (c.args.k + 1) c.index.result.now = c.index.ensures in
    let n : ℕ = c.index.result.now - c.index-at.result.now in
    let sum : n + c.index-at.result.now ≡ get_or starts (c.args.k + 1) c.index.result.now = omega (arith, next, (text_within bytes starts c.split_at.result.1.now ps c.args.k c.index.result.now c.index-at.result.now c.index-at.result.now c.self.invariant.flat more c.index-at.ensures rest).0) in
    subst (λ (qs : List Pair). c.split_at-then-next-len.result.0.now ≡ pair_text (get_or qs c.args.k d)) c.self.view_is
    (text_cut bytes starts c.split_at.result.1.now c.split_at-then-next-len.result.0.now ps c.args.k c.index.result.now c.index-at.result.now c.index-at.result.now n d c.self.invariant.flat more c.index-at.ensures rest sum c.split_at-then-next-len.ensures.front)

pub returns-else-next-len : goal.returns-else-next-len
returns-else-next-len c = λ d.
    let bytes : List ℕ = c.self.inside.bytes in
    let starts : List ℕ = c.self.inside.starts.items in
    let ps : List Pair = pairs_in bytes starts in
    let inside : c.args.k < length ps = subst (λ (qs : List Pair). c.args.k < length qs) (sym c.self.view_is) c.requires in
    let last : length ps ≤ c.args.k + 1 = omega (arith, length-map starts (λ at. pair_front (drop at bytes))) in
    let rest = c.split_at.ensures.back ∙ ap (drop c.index-at.result.now) c.as_slice.ensures in
    subst (λ (qs : List Pair). c.split_at.result.1.now ≡ pair_text (get_or qs c.args.k d)) c.self.view_is
    (text_last bytes starts c.split_at.result.1.now ps c.args.k c.index-at.result.now c.index-at.result.now d c.self.invariant.flat inside last c.index-at.ensures rest)
