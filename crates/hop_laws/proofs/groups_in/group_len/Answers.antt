use Rattle.std.proofs.Common.{◌≡◌, ◌∙◌, sym, ap, get_or, arith, List}
use Rattle.std.specs.Str.{bytes_eq}
use Rattle.std.proofs.lemmas.List.{length-map}
use Rattle.std.proofs.lemmas.Slice.Eq.{bytes_eq-Decides}
use Rattle.hop_base.specs.declared.value.Pair.{Pair}
use Rattle.hop_laws.specs.declared.entry.Entry.{Entry}
use Rattle.hop_laws.specs.Entries.{key_in, pair_in, pairs_in}
use Rattle.hop_laws.specs.Groups.{first_key}
use Rattle.hop_laws.proofs.GroupLaws.{together_more, IsFirstGroup-from}
use Rattle.hop_laws.proofs.GatheredLaws.{first_entry, entry_at}
use Rattle.hop_laws.proofs.groups_in.group_len.Goals as goal

pub loop-end-preserved : goal.loop-end-preserved
loop-end-preserved c =
    let none : Entry = record { head = record { first = 0; second = 0 }; number = 0; at = 0; stored_len = 0; text_len = 0 } in
    let es : List Entry = c.args.entries.now in
    let ps : List Pair = pairs_in c.args.arena.now es in
    let first : first_key ps ≡ key_in c.args.arena.now (get_or es 0 none) = first_entry c.args.arena.now es none c.requires.some in
    let same = (bytes_eq-Decides (key_in c.args.arena.now (get_or es 0 none)) (key_in c.args.arena.now (get_or es c.loop-end.end none))).0 (sym c.if-is_same_key.ensures) in
    record {
      some = omega arith;
      within = omega arith;
      together = together_more (first_key ps) ps c.loop-end.end (pair_in c.args.arena.now none) (omega (arith, length-map es (pair_in c.args.arena.now))) c.loop-end.invariant.together (entry_at c.args.arena.now es c.loop-end.end none ∙ sym same ∙ sym first);
    }

pub returns-else-is_same_key : goal.returns-else-is_same_key
returns-else-is_same_key c =
    let none : Entry = record { head = record { first = 0; second = 0 }; number = 0; at = 0; stored_len = 0; text_len = 0 } in
    let es : List Entry = c.args.entries.now in
    let ps : List Pair = pairs_in c.args.arena.now es in
    let first : first_key ps ≡ key_in c.args.arena.now (get_or es 0 none) = first_entry c.args.arena.now es none c.requires.some in
    IsFirstGroup-from ps c.loop-end.end (pair_in c.args.arena.now none) c.requires.sorted c.loop-end.invariant.some (omega (arith, length-map es (pair_in c.args.arena.now))) c.loop-end.invariant.together
    (λ h. ap (λ k. bytes_eq k (get_or ps c.loop-end.end (pair_in c.args.arena.now none)).key) first
    ∙ ap (bytes_eq (key_in c.args.arena.now (get_or es 0 none))) (entry_at c.args.arena.now es c.loop-end.end none)
    ∙ sym c.if-is_same_key.ensures)
