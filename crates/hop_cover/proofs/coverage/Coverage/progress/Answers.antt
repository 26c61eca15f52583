use Rattle.std.proofs.Common.{ap, ◌∙◌, subst, sym, arith, ℕ, ◌≤◌, ◌≡◌, ◌*◌, ◌/◌, length, refl, false, ◌==◌}
use Rattle.std.proofs.Math.Nat.{div-le_of_le-mul}
use Rattle.hop_event.specs.Coverage.{progress}
use Rattle.hop_cover.specs.Table.{Table, StandsFor}
use Rattle.hop_cover.proofs.TableLaws.{total_within, same_scores}
use Rattle.hop_cover.proofs.coverage.Coverage.progress.Goals as goal

few : (total n len : ℕ) → total ≤ 10000 * n → len ≡ n → total / len ≤ 10000
few total n len b e = let k : total ≤ len * 10000 = omega arith in div-le_of_le-mul len k

pub overflow_cast-result : goal.overflow_cast-result
overflow_cast-result c =
    let b = few c.self.inside.total (length c.self.inside.lens.items) (length c.deref-lens.result.now) (total_within c.self.inside.lens.items c.self.inside.tentative c.self.inside.rows.items c.self.inside.total c.self.invariant) (ap length c.deref-lens.ensures.value) in
    omega (arith, b)

pub returns-else-is_empty-clause-value : goal.returns-else-is_empty-clause-value
returns-else-is_empty-clause-value c = λ h stands.
    subst (λ (t : Table). StandsFor t h → c.self.inside.total / length c.deref-lens.result.now ≡ progress t.tentative t.lens h) c.self.view_is
    (λ stands.
    let e = same_scores c.self.inside.lens.items c.self.inside.tentative c.self.inside.rows.items c.self.inside.total c.self.invariant h stands in
    let n = ap length c.deref-lens.ensures.value in
    let f : (length c.self.inside.lens.items == 0) ≡ false = ap (λ k. k == 0) (sym n) ∙ sym c.is_empty.ensures ∙ c.if-is_empty.false in
    rw (e, n, f) refl)
    stands

pub returns-else-is_empty-clause-bound : goal.returns-else-is_empty-clause-bound
returns-else-is_empty-clause-bound c =
    few c.self.inside.total (length c.self.inside.lens.items) (length c.deref-lens.result.now) (total_within c.self.inside.lens.items c.self.inside.tentative c.self.inside.rows.items c.self.inside.total c.self.invariant) (ap length c.deref-lens.ensures.value)
