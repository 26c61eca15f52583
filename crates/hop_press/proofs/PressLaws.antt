-- What is held fits, where names and tables of kept spills are the same.
use Rattle.std.proofs.Common.{◌≡◌, ℕ, ◌<◌, Bool, List, length, sym, ap, ◌∙◌, subst}
use Rattle.std.specs.Prelude.{slice_set}
use Rattle.hop_base.specs.Meaning.{Meaning}
use Rattle.hop_base.specs.Run.{RunSettings}
use Rattle.hop_vault.specs.Rows.{Table}
use Rattle.hop_machine.specs.step.Steps.{Verdicts}
use Rattle.hop_press.specs.Held.{LaneValue, lane_at, IsReady, AreReady}
use Rattle.hop_press.specs.Fits.{LaneFits, HeldFits}
use Rattle.hop_press.proofs.AllLanes.{set_each}

module _ {K : Type 0} where
  -- where a lane is changed, all are ready if it is
  pub ready_set : (lanes old : List (LaneValue K)) (p : ℕ) (x : LaneValue K) → lanes ≡ old → p < length old → AreReady old → IsReady x → AreReady (slice_set lanes p x)
  ready_set lanes old p x is lt h here =
      set_each (λ q y. IsReady y) lanes p x (subst (λ (ls : List (LaneValue K)). p < length ls) (sym is) lt) (subst (λ (ls : List (LaneValue K)). AreReady ls) (sym is) h) here

  -- the lane that is lent
  pub lent : (lanes old : List (LaneValue K)) (p : ℕ) (x : LaneValue K) → lanes ≡ old → p < length old → (x ≡ lane_at lanes p) → lane_at old p ≡ x
  lent lanes old p x is lt h = ap (λ (ls : List (LaneValue K)). lane_at ls p) (sym is) ∙ sym h

module _ (job : Meaning) (records : List (List ℕ)) (settings : RunSettings) (tells : Bool) {K : Type 0} (knows : K → Verdicts) (board : K → List ℕ) where
  -- the same table and the same board
  pub fits_moved : (table later : Table) (name after : List ℕ) (lanes : List (LaneValue K)) → table ≡ later → name ≡ after → HeldFits job records settings tells table knows board name lanes → HeldFits job records settings tells later knows board after lanes
  fits_moved table later name after lanes t n h =
      let P : Table × List ℕ → Type 0 = λ z. HeldFits job records settings tells z.0 knows board z.1 lanes in subst P (λ i. (t i, n i)) h

  -- where a lane is changed, what is held fits if it does
  pub fits_set : (table : Table) (name : List ℕ) (lanes old : List (LaneValue K)) (p : ℕ) (x : LaneValue K) → lanes ≡ old → p < length old → HeldFits job records settings tells table knows board name old → LaneFits job records settings tells table knows board name p x
      → HeldFits job records settings tells table knows board name (slice_set lanes p x)
  fits_set table name lanes old p x is lt h here =
      set_each (λ q y. LaneFits job records settings tells table knows board name q y) lanes p x (subst (λ (ls : List (LaneValue K)). p < length ls) (sym is) lt) (subst (λ (ls : List (LaneValue K)). HeldFits job records settings tells table knows board name ls) (sym is) h) here
