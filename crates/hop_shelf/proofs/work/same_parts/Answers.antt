use Rattle.std.proofs.Common.{◌≡◌, ap, eqb, ◌&&◌, ◌∙◌}
use Rattle.std.specs.Bool.{Decides}
use Rattle.std.proofs.lemmas.Bool.Decides.{Decides-like, Decides-and, Decides-eqb}
use Rattle.std.proofs.lemmas.Slice.Eq.{slice_eq-Decides}
use Rattle.hop_base.specs.declared.part.Part.{Part}
use Rattle.hop_shelf.proofs.work.same_parts.Goals as goal

fields : (a b : Part) → (a.split ≡ b.split) × ((a.attempt ≡ b.attempt) × ((a.from ≡ b.from) × (a.to ≡ b.to))) → a ≡ b
fields a b h = ap (λ n. record a { split = n }) h.0 ∙ ap (λ n. record b { split = b.split; attempt = n; from = a.from; to = a.to }) h.1.0 ∙ ap (λ n. record b { from = n; to = a.to }) h.1.1.0 ∙ ap (λ n. record b { to = n }) h.1.1.1

part_decides : (a b : Part) → Decides (eqb a.split b.split && (eqb a.attempt b.attempt && (eqb a.from b.from && eqb a.to b.to))) (a ≡ b)
part_decides a b = Decides-like _ (fields a b) (λ e. (ap (λ q. q.split) e, (ap (λ q. q.attempt) e, (ap (λ q. q.from) e, ap (λ q. q.to) e))))
    (Decides-and _ _ (Decides-eqb a.split b.split) (Decides-and _ _ (Decides-eqb a.attempt b.attempt) (Decides-and _ _ (Decides-eqb a.from b.from) (Decides-eqb a.to b.to))))

pub returns : goal.returns
returns c = slice_eq-Decides part_decides _ _ _ c.eq.ensures
