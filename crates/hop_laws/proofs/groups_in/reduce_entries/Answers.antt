use Rattle.std.proofs.Common.{◌≡◌, List, map, take, ◌∙◌, sym, ap, subst}
use Rattle.std.specs.Prelude.{All, IsSorted}
use Rattle.std.proofs.lemmas.List.Elements.{All-drop}
use Rattle.hop_base.specs.declared.value.Val.{Val}
use Rattle.hop_base.specs.declared.value.Pair.{Pair}
use Rattle.hop_base.specs.Order.{val_cmp, pair_cmp}
use Rattle.hop_laws.specs.declared.entry.Entry.{Entry}
use Rattle.hop_laws.specs.Entries.{pairs_in, IsEntry}
use Rattle.hop_laws.specs.Groups.{first_key}
use Rattle.hop_laws.proofs.GroupLaws.{group_sorted, sorted_drop, told_more}
use Rattle.hop_laws.proofs.GatheredLaws.{taken_pairs, dropped_pairs, first_taken}
use Rattle.hop_laws.proofs.groups_in.reduce_entries.Goals as goal

pub reduce-requires-clause-sorted : goal.reduce-requires-clause-sorted
reduce-requires-clause-sorted g c =
    let ps : List Pair = pairs_in c.args.arena.now c.loop-rest.rest.now in
    let v : c.deref.result.now ≡ map (λ (q : Pair). q.val) (take c.group_len.result ps) = c.deref.ensures.value ∙ c.in_ok-load.ensures.vals ∙ ap (map (λ (q : Pair). q.val)) (taken_pairs c.args.arena.now c.loop-rest.rest.now c.split_at.result.0.now c.group_len.result c.split_at.ensures.front) in
    subst (λ (vs : List Val). IsSorted val_cmp vs) (sym v) (group_sorted ps c.group_len.result c.loop-rest.invariant.sorted c.group_len.ensures)

pub loop-rest-preserved : goal.loop-rest-preserved
loop-rest-preserved g c =
    let ps : List Pair = pairs_in c.args.arena.now c.loop-rest.rest.now in
    let t : pairs_in c.args.arena.now c.split_at.result.0.now ≡ take c.group_len.result ps = taken_pairs c.args.arena.now c.loop-rest.rest.now c.split_at.result.0.now c.group_len.result c.split_at.ensures.front in
    let d = dropped_pairs c.args.arena.now c.loop-rest.rest.now c.split_at.result.1.now c.group_len.result c.split_at.ensures.back in
    let v : c.deref.result.now ≡ map (λ (q : Pair). q.val) (take c.group_len.result ps) = c.deref.ensures.value ∙ c.in_ok-load.ensures.vals ∙ ap (map (λ (q : Pair). q.val)) t in
    let k : first_key ps ≡ c.load.new.key = first_taken ps (pairs_in c.args.arena.now c.split_at.result.0.now) c.group_len.result c.group_len.ensures.some t ∙ sym c.in_ok-load.ensures.key in
    record {
      entries = subst (λ (es : List Entry). All (IsEntry c.args.arena.now) es) (sym c.split_at.ensures.back) (All-drop (IsEntry c.args.arena.now) c.group_len.result c.loop-rest.rest.now c.loop-rest.invariant.entries);
      sorted = subst (λ (qs : List Pair). IsSorted pair_cmp qs) (sym d) (sorted_drop ps c.group_len.result c.loop-rest.invariant.sorted);
      told = told_more (g.J.Job.meaning c.args.job.now).reduced ps (pairs_in c.args.arena.now c.split_at.result.1.now) c.group_len.result c.load.new.key c.deref.result.now c.loop-rest.text.items c.reduce.new.out.items
          c.loop-rest.invariant.sorted c.group_len.ensures k v d c.in_ok-reduce.ensures.ok ∙ c.loop-rest.invariant.told;
    }
