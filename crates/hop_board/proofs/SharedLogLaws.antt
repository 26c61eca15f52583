-- Each step of a shared log keeps its rule.
use Rattle.std.proofs.Common.{◌≡◌, ◌≢◌, ℕ, ◌<◌, ◌⊎◌, Bool, true, false, List, [], ◌∷◌, ◌++◌, set, zero, suc, refl, sym, ap, ◌∙◌, subst, ⊎_elim, arith}
use Rattle.std.proofs.lemmas.List.{append-nil}
use mathlib.Core.Option.{some, some-injective, some-ne-none}
use lib.ListN.{get_elem?}
use Rattle.atomic_table.specs.Seated.{TableId}
use Rattle.atomic_table.proofs.Lists.{at_set, at_snoc, set_again}
use Rattle.hop_board.specs.declared.shared_log.Known.{Known}
use Rattle.hop_inner.specs.Lines.{name_of}
use Rattle.hop_board.specs.SharedLogs.{Ends, known, IsOlder, Shares}

abbrev head : List ℕ → ℕ
head [] = 0
head (x ∷ xs) = x

abbrev tail : List ℕ → List ℕ
tail [] = []
tail (x ∷ xs) = xs

pub name_of-injective : (a b : TableId) → name_of a ≡ name_of b → a ≡ b
name_of-injective a b e = λ i. record {
  words = head (e i);
  slots = head (tail (e i));
  views_name = head (tail (tail (e i)));
  atom = head (tail (tail (tail (e i))));
  block = head (tail (tail (tail (tail (e i)))));
  offset = head (tail (tail (tail (tail (tail (e i))))));
  slot_names = tail (tail (tail (tail (tail (tail (e i))))));
}

module _ {T : Type 0} where
  longer : (x : T) (log older : List T) → Ends log older → Ends (x ∷ log) older
  longer x log older h = (x ∷ h.0, ap (λ l. x ∷ l) h.1)

  each_one : (port : ℕ) (v : Known T) → get_elem? (known {T = T} true [] [] ∷ []) port ≡ some v → IsOlder 0 [] port v
  each_one zero v e = subst (IsOlder 0 [] 0) (some-injective (known true [] []) v e) (record { items = ([], refl); heard = ([], refl); writes = λ _. (refl, refl) })
  each_one (suc port) v e = absurd (some-ne-none v (sym e))

  pub opens : Shares (known {T = T} true [] [] ∷ [])
  opens = record { writer = 0; log = []; each = each_one }

  pub adds : (views : List (Known T)) (id : ℕ) (v : Known T) (x : T) → v.writes ≡ true → Shares views → get_elem? views id ≡ some v → Shares (set views id (known v.writes (x ∷ v.items) v.heard))
  adds views id v x wr h at =
      let f = h.each id v at in let mine = f.writes wr in let w : Known T = known v.writes (x ∷ v.items) v.heard in
      let more : x ∷ v.items ≡ x ∷ h.log = ap (λ l. x ∷ l) mine.1 in
      record {
        writer = h.writer;
        log = x ∷ h.log;
        each = λ j u e. ⊎_elim
            (λ (y : (j ≡ id) × (w ≡ u)). subst (IsOlder h.writer (x ∷ h.log) j) y.1 (record { items = ([], sym more); heard = longer x h.log v.heard f.heard; writes = λ _. (y.0 ∙ mine.0, more) }))
            (λ (y : (j ≢ id) × (get_elem? views j ≡ some u)). let g = h.each j u y.1 in record { items = longer x h.log u.items g.items; heard = longer x h.log u.heard g.heard; writes = λ t. absurd (y.0 ((g.writes t).0 ∙ sym mine.0)) })
            (at_set views id j w u e);
      }

  pub copies : (views : List (Known T)) (id : ℕ) (v : Known T) → Shares views → get_elem? views id ≡ some v → Shares (set views id v ++ known false v.items [] ∷ [])
  copies views id v h at =
      let f = h.each id v at in
      record {
        writer = h.writer;
        log = h.log;
        each = λ j u e. ⊎_elim
            (λ (y : get_elem? (set views id v) j ≡ some u). h.each j u (subst (λ (l : List (Known T)). get_elem? l j ≡ some u) (set_again views id v at) y))
            (λ (y : known false v.items [] ≡ u). subst (IsOlder h.writer h.log j) y (record { items = f.items; heard = (h.log, sym (append-nil h.log)); writes = λ t. cc }))
            (at_snoc (set views id v) (known false v.items []) u j e);
      }

  pub hears : (views : List (Known T)) (id : ℕ) (v : Known T) (other : ℕ) (w : Known T) → Shares views → get_elem? views id ≡ some v → (other ≡ id → ⊥)
      → get_elem? (set views id (known v.writes v.items w.items)) other ≡ some w → Shares (set (set views id (known v.writes v.items w.items)) other (known false [] []))
  hears views id v other w h at apart at' =
      let f = h.each id v at in let both : Known T = known v.writes v.items w.items in
      let there : get_elem? views other ≡ some w = ⊎_elim (λ (y : (other ≡ id) × (both ≡ w)). absurd (apart y.0)) (λ (y : (other ≢ id) × (get_elem? views other ≡ some w)). y.1) (at_set views id other both w at') in
      let g = h.each other w there in
      record {
        writer = h.writer;
        log = h.log;
        each = λ j u e. ⊎_elim
            (λ (y : (j ≡ other) × (known false [] [] ≡ u)). subst (IsOlder h.writer h.log j) y.1 (record { items = (h.log, sym (append-nil h.log)); heard = (h.log, sym (append-nil h.log)); writes = λ t. cc }))
            (λ (y : (j ≢ other) × (get_elem? (set views id both) j ≡ some u)). ⊎_elim
            (λ (z : (j ≡ id) × (both ≡ u)). subst (IsOlder h.writer h.log j) z.1 (record { items = f.items; heard = g.items; writes = λ t. (z.0 ∙ (f.writes t).0, (f.writes t).1) }))
            (λ (z : (j ≢ id) × (get_elem? views j ≡ some u)). h.each j u z.1)
            (at_set views id j both u y.1))
            (at_set (set views id both) other j (known false [] []) u e);
      }

  pub learns : (views : List (Known T)) (id : ℕ) (v : Known T) → v.writes ≡ true → Shares views → get_elem? views id ≡ some v → Ends v.items v.heard
  learns views id v wr h at = let f = h.each id v at in subst (λ (l : List T). Ends l v.heard) (sym (f.writes wr).1) f.heard
