-- The cut lanes in turn.
use Rattle.std.proofs.Common.{◌≡◌, ℕ, zero, suc, ◌-◌, ◌<◌, ◌≤◌, Bool, List, [], ◌∷◌, ◌++◌, Some, None, refl, subst, arith}
use Rattle.hop_machine.specs.declared.words.Turn.{Turn}
use Rattle.hop_machine.specs.declared.words.Turn.TheVariants.{Idle}
use Rattle.hop_machine.specs.step.Setup.{Setup, CutSaid}
use Rattle.hop_machine.specs.step.CutLane.{AreCutsFrom, IsMark}
use Rattle.hop_machine.specs.step.Steps.{Deeds, Steps, Runs, TakeCut}
use Rattle.hop_machine.specs.actors.ReducerTurns.{Writer, writes, wrote, works, lane_after}
use Rattle.hop_machine.proofs.step.Programs.{risk_steps}
use Rattle.hop_machine.specs.home.Conditions.{Safe, May}
use Rattle.hop_inner.specs.Setups.{parts}

-- in a run without marks no cut lane allows a cut
pub no_cut : (s : Setup) → s.marks ≡ [] → (cuts : List CutSaid) (c : CutSaid) (low : ℕ) → AreCutsFrom s low (cuts ++ c ∷ []) → ⊥
no_cut s none [] c low h = subst (λ marks. IsMark marks c.mark) none h.0.mark
no_cut s none (x ∷ cuts) c low h = subst (λ marks. IsMark marks x.mark) none h.0.mark

module _ (e : Bool) (x : Writer) where
  pub may_take : (left p : ℕ) (a : Deeds) → 0 < left → Safe parts e (writes x left p) a → May parts (TakeCut p) a
  may_take zero p a l safe = absurd (omega arith)
  may_take (suc n) p a l safe = safe.0

  pub none_safe : (left p : ℕ) (a b : Deeds) → 0 < left → Steps e (TakeCut p) None a b → Safe parts e (writes x left p) a → Safe parts e (writes x (left - 1) (lane_after x.setup.reducers p)) b
  none_safe zero p a b l st safe = absurd (omega arith)
  none_safe (suc n) p a b l st safe = let same : n ≡ suc n - 1 = omega arith in subst (λ k. Safe parts e (writes x k (lane_after x.setup.reducers p)) b) same (safe.1 None b st)

  pub none_ran : (left p : ℕ) (a b d : Deeds) (y : Writer × Turn) → 0 < left → Steps e (TakeCut p) None a b → Runs e (writes x (left - 1) (lane_after x.setup.reducers p)) b y d → Runs e (writes x left p) a y d
  none_ran zero p a b d y l st ran = absurd (omega arith)
  none_ran (suc n) p a b d y l st ran = let same : suc n - 1 ≡ n = omega arith in (None, b, st, subst (λ k. Runs e (writes x k (lane_after x.setup.reducers p)) b y d) same ran)

  pub over_ran : (left p : ℕ) (a : Deeds) → left ≤ 0 → let y : Writer × Turn = (x, Idle) in Runs e (writes x left p) a y a
  over_ran zero p a l = (refl, refl)
  over_ran (suc n) p a l = absurd (omega arith)

  -- a cut is taken, and its file is put or not
  pub some_ran : (left p : ℕ) (c : CutSaid) (ok : Bool) (a b : Deeds) (y : Writer) (t : Turn) → 0 < left → Steps e (TakeCut p) (Some c) a b → y ≡ wrote x p c ok → t ≡ works ok → Runs e (writes x left p) a (y, t) b
  some_ran zero p c ok a b y t l st is said = absurd (omega arith)
  some_ran (suc n) p c ok a b y t l st is said = (Some c, b, st, (ok, b, risk_steps e ok b, ((λ i. (is i, said i)), refl)))
