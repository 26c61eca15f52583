use Rattle.std.proofs.Common.{◌≡◌, ◌+◌, ◌<◌, ◌≤◌, List, ℕ, [], length, drop, get_or, sym, ap, subst, ◌∙◌}
use Rattle.std.specs.Prelude.{slice_get, Some}
use Rattle.std.proofs.lemmas.List.Elements.{All-get_or}
use Rattle.hop_base.specs.declared.value.Pair.{Pair}
use Rattle.hop_base.specs.Order.{IsValidPair}
use Rattle.hop_base.specs.Fields.{pair_of, pair_front}
use Rattle.hop_base.specs.Flat.{pairs_in, pairs_text}
use Rattle.hop_base.proofs.FlatLaws.{start_within, text_there, pair_there}
use Rattle.hop_base.proofs.flat_sheet.FlatSheet.pair.Goals as goal

pub split_at-requires : goal.split_at-requires
split_at-requires c =
    let bytes : List ℕ = c.self.inside.bytes in
    let starts : List ℕ = c.self.inside.starts.items in
    let inside : c.args.k < length (pairs_in bytes starts) = subst (λ (ps : List Pair). c.args.k < length ps) (sym c.self.view_is) c.requires in
    let at : c.index-at.result.now ≤ length bytes = subst (λ (n : ℕ). n ≤ length bytes) (sym c.index-at.ensures) (start_within bytes starts (pairs_in bytes starts) c.args.k c.index-at.result.now c.self.invariant.flat inside) in
    subst (λ (b : List ℕ). c.index-at.result.now ≤ length b) (sym c.as_slice.ensures) at

pub front-requires : goal.front-requires
front-requires c =
    let bytes : List ℕ = c.self.inside.bytes in
    let starts : List ℕ = c.self.inside.starts.items in
    let ps : List Pair = pairs_in bytes starts in
    let d : Pair = pair_of [] 0 [] in
    let inside : c.args.k < length ps = subst (λ (qs : List Pair). c.args.k < length qs) (sym c.self.view_is) c.requires in
    let place : drop c.index-at.result.now bytes ≡ drop (get_or starts c.args.k c.index-at.result.now) bytes = ap (λ n. drop n bytes) c.index-at.ensures in (
      get_or ps c.args.k d,
      (
        pairs_text (drop (c.args.k + 1) ps),
        All-get_or IsValidPair ps c.args.k d inside c.self.invariant.flat.valid,
        c.split_at.ensures.back ∙ ap (drop c.index-at.result.now) c.as_slice.ensures ∙ place ∙ text_there bytes starts ps c.args.k c.index-at.result.now d c.self.invariant.flat inside,
      ),
    )

pub returns : goal.returns
returns c =
    let bytes : List ℕ = c.self.inside.bytes in
    let starts : List ℕ = c.self.inside.starts.items in
    let ps : List Pair = pairs_in bytes starts in
    let inside : c.args.k < length ps = subst (λ (qs : List Pair). c.args.k < length qs) (sym c.self.view_is) c.requires in
    let place : drop c.index-at.result.now bytes ≡ drop (get_or starts c.args.k c.index-at.result.now) bytes = ap (λ n. drop n bytes) c.index-at.ensures in
    let read : c.front.result ≡ pair_front (drop (get_or starts c.args.k c.index-at.result.now) bytes) =
    c.front.ensures ∙ ap pair_front (c.split_at.ensures.back ∙ ap (drop c.index-at.result.now) c.as_slice.ensures ∙ place) in
    subst (λ (qs : List Pair). slice_get qs c.args.k ≡ Some c.front.result) c.self.view_is (pair_there bytes starts ps c.args.k c.index-at.result.now c.front.result c.self.invariant.flat inside read)
