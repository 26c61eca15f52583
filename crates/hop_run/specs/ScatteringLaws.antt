-- Pairs that are parted, some and then others.
use Rattle.std.proofs.Common.{◌≡◌, ℕ, List, [], ◌++◌, refl, sym, ap, ◌∙◌, append_assoc}
use Rattle.std.specs.Prelude.{◌==◌}
use Rattle.std.proofs.lemmas.List.{append-nil}
use Rattle.std.proofs.lemmas.List.Elements.{filter-append}
use Rattle.hop_base.specs.declared.value.Pair.{Pair}
use Rattle.hop_laws.specs.Partition.{partition_of, of_partition}
use Rattle.hop_run.specs.Scattering.{Keeps}

joined : (p r : ℕ) (xs ps qs : List Pair) → (xs ++ of_partition p r ps) ++ of_partition p r qs ≡ xs ++ of_partition p r (ps ++ qs)
joined p r xs ps qs = append_assoc xs (of_partition p r ps) (of_partition p r qs) ∙ ap (λ ys. xs ++ ys) (sym (filter-append (λ (pair : Pair). partition_of pair.key r == p) ps qs))

pub keeps_none : (p r : ℕ) (pairs : List Pair) → Keeps p r pairs [] p r pairs
keeps_none p r pairs = record { same_p = refl; same_r = refl; more = sym (append-nil pairs) }

pub keeps_more : (p r p' r' p'' r'' : ℕ) (a b c ps qs : List Pair) → Keeps p r a ps p' r' b → Keeps p' r' b qs p'' r'' c → Keeps p r a (ps ++ qs) p'' r'' c
keeps_more p r p' r' p'' r'' a b c ps qs h k = record {
  same_p = k.same_p ∙ h.same_p;
  same_r = k.same_r ∙ h.same_r;
  more = k.more ∙ ap (λ i. b ++ of_partition i r' qs) h.same_p ∙ ap (λ i. b ++ of_partition p i qs) h.same_r ∙ ap (λ xs. xs ++ of_partition p r qs) h.more ∙ joined p r a ps qs;
}
