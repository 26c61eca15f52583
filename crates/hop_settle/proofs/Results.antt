-- What a call that failed is, for the machine.
use Rattle.std.proofs.Common.{◌≡◌, ℕ, List, Some, slice_set, refl, sym, subst, inl, None, Result, Ok, Err}
use Rattle.std.specs.Prelude.{IsErr, OnOk, IfErr}
use Rattle.std.specs.List.{slice_get}
use Rattle.std.proofs.lemmas.Bool.{true≢false}
use Rattle.hop_base.specs.Meaning.{Meaning}
use Rattle.hop_base.specs.Run.{ScriptLines, RunSettings}
use Rattle.hop_actors.specs.Calls.{found}
use Rattle.hop_actors.specs.declared.fault.Fault.{Fault}
use Rattle.hop_actors.specs.Counting.{Counts, StoreCause}
use Rattle.hop_settle.specs.Stops.{StoresStop}

pub found-none : {A E : Type 0} (r : Result A E) → IsErr r → found r ≡ None
found-none (Ok x) h = absurd (true≢false (sym h))
found-none (Err e) h = refl

module _ {A E : Type 0} where
  pub ok-more : (r : Result A E) (P Q : Type 0) → (P → Q) → OnOk r P → OnOk r Q
  ok-more (Ok x) P Q f h = f h
  ok-more (Err e) P Q f h = tt

  pub err-more : (r : Result A E) (P Q : E → Type 0) → ((e : E) → P e → Q e) → IfErr r P → IfErr r Q
  err-more (Ok x) P Q f h = tt
  err-more (Err e) P Q f h = f e h

-- a mapper of a list failed
pub store-stopped : (job : Meaning) (records : List (List ℕ)) (script : ScriptLines) (settings : RunSettings) (n w : ℕ) (xs ys : List Counts) (x y : Counts) (f : Fault) → n ≡ w → slice_get xs w ≡ Some x → ys ≡ slice_set xs w y → StoreCause job records script settings n x y f → StoresStop job records script settings xs ys f
store-stopped job records script settings n w xs ys x y f at here now cause = inl (record { worker = w; before = x; here = here; after = y; cause = subst (λ k. StoreCause job records script settings k x y f) at cause; now = now })
