use Rattle.std.proofs.Common.{◌++◌, [], ◌∷◌, List, Ok, Err, sym, ap, subst, ◌∙◌}
use Rattle.std.specs.Prelude.{All, OnErr, Result}
use Rattle.hop_base.specs.declared.value.Pair.{Pair}
use Rattle.hop_laws.specs.declared.entry.Entry.{Entry}
use Rattle.hop_laws.specs.Entries.{pairs_in, IsEntry}
use Rattle.hop_base.specs.Fields.{pair_of}
use Rattle.hop_laws.proofs.EntryLaws.{entries_kept, pairs_kept}
use Rattle.hop_laws.proofs.GatheredLaws.{pushed_entries, pushed_pairs}
use Rattle.hop_laws.proofs.gathered.GatheredPairSink.take.Goals as goal

on_err : {T E : Type 0} (r : Result T E) (P : Type 0) → P → OnErr r P
on_err (Ok x) P p = tt
on_err (Err e) P p = p

pub invariant_of-self-in_err-push : goal.invariant_of-self-in_err-push
invariant_of-self-in_err-push c =
    let grown = c.append.new.arena.items in
    subst (λ (es : List Entry). All (IsEntry grown) es) (sym c.in_err-push.ensures.items) (entries_kept c.self.inside.arena.items grown c.self.inside.entries.items c.in_ok-entry.ensures.ok c.self.invariant)

pub returns-in_err-push-clause-err : goal.returns-in_err-push-clause-err
returns-in_err-push-clause-err c =
    let grown = c.append.new.arena.items in
    on_err c.from_residual-in_err-push.result _ (ap (pairs_in grown) c.in_err-push.ensures.items ∙ pairs_kept c.self.inside.arena.items grown c.self.inside.entries.items c.in_ok-entry.ensures.ok c.self.invariant ∙ c.self.view_is)

pub invariant_of-self-2 : goal.invariant_of-self-2
invariant_of-self-2 c =
    let grown = c.append.new.arena.items in
    subst (λ (es : List Entry). All (IsEntry grown) es) (sym c.in_ok-push.ensures.items) (pushed_entries c.self.inside.arena.items grown c.self.inside.entries.items c.in_ok-entry.entry c.in_ok-entry.ensures.ok c.self.invariant c.in_ok-entry.ensures.entry)

pub returns-clause-ok : goal.returns-clause-ok
returns-clause-ok c =
    let grown = c.append.new.arena.items in
    let pair : Pair = pair_of c.args.key.now c.args.number c.args.text.now in
    ap (pairs_in grown) c.in_ok-push.ensures.items
    ∙ pushed_pairs c.self.inside.arena.items grown c.self.inside.entries.items c.in_ok-entry.entry pair c.in_ok-entry.ensures.ok c.self.invariant c.in_ok-entry.ensures.pair
    ∙ ap (λ ps. ps ++ pair ∷ []) c.self.view_is
