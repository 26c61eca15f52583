use Rattle.std.proofs.Common.{◌≡◌, ℕ, ◌+◌, [], ◌∷◌, ◌++◌, map, length, Vec, Global, sym, ap, ◌∙◌, arith}
use Rattle.std.specs.Prelude.{filter}
use Rattle.std.proofs.lemmas.List.{map-append, length-map}
use Rattle.hop_base.specs.Sorted.{ord}
use Rattle.hop_base.proofs.Sorted.{IsAscending-ord}
use Rattle.hop_script.specs.Script.{restart_cmp}
use Rattle.hop_script.specs.Kept.{lines_from, lines_at}
use Rattle.hop_script.proofs.KeptLemmas.{all-ord}
use Rattle.hop_script.proofs.DraftLemmas.{restart_total}
use Rattle.hop_script.proofs.RestartLemmas.{is_below, is_of, filter_none, filter_next, filter_all, lines_at-keys, lines_from-push}
use Rattle.hop_script.proofs.script.lists_of.Goals as goal

pub loop-partition-init : goal.loop-partition-init
loop-partition-init c = (λ lines has. rw c.in_ok-lists.ensures.items (sym (filter_none (ord restart_cmp lines))), c.in_ok-lists.ensures.len)

pub loop-partition-preserved : goal.loop-partition-preserved
loop-partition-preserved c =
    let lists = map (λ (list : Vec ℕ Global). list.items) c.loop-partition.lists.items in
    let p = c.loop-partition.partition in
    let list = c.in_ok-arrivals_of.field-0.items in
    let count : 0 + length lists ≡ p = omega (arith, length-map c.loop-partition.lists.items (λ (list : Vec ℕ Global). list.items), c.loop-partition.invariant.1, c.loop-partition.lists.ok) in (
      λ lines has.
          let here : lines_at p list ≡ filter (is_of p) (ord restart_cmp lines) =
          ap (lines_at p) c.in_ok-arrivals_of.ensures ∙ lines_at-keys p c.args.restarts.now.keys ∙ ap (filter (is_of p)) has.kept in
          rw (c.in_ok-push.ensures.items, map-append (λ (list : Vec ℕ Global). list.items) c.loop-partition.lists.items (c.in_ok-arrivals_of.field-0 ∷ []))
          (lines_from-push 0 lists list
          ∙ ap (λ q. lines_from 0 lists ++ lines_at q list) count
          ∙ ap (λ ls. ls ++ lines_at p list) (c.loop-partition.invariant.0 lines has)
          ∙ ap (λ ls. filter (is_below p) (ord restart_cmp lines) ++ ls) here
          ∙ sym (filter_next p (ord restart_cmp lines) (IsAscending-ord restart_cmp restart_total lines))),
      omega (arith, c.in_ok-push.ensures.len, c.loop-partition.invariant.1),
    )

pub returns : goal.returns
returns c = λ lines has.
    let last : c.loop-partition.partition ≡ 8 = omega arith in
    c.loop-partition.invariant.0 lines has
    ∙ ap (λ p. filter (is_below p) (ord restart_cmp lines)) last
    ∙ filter_all (ord restart_cmp lines) (all-ord restart_cmp _ lines ∙ has.few)
