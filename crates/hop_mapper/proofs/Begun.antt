-- A mapper that begins an attempt, and a mapper that looks for a split without a winner.
use Rattle.std.proofs.Common.{◌≡◌, ℕ, suc, ◌+◌, ◌-◌, ◌<◌, ◌≤◌, ◌==◌, ◌&&◌, Bool, true, false, List, length, refl, sym, ap, ◌∙◌, subst, arith, if◌then◌else◌, Option, Some, None}
use Rattle.std.specs.Prelude.{nat_lt, slice_index, slice_set, is_none}
use Rattle.std.proofs.Math.Path.{fun_ext}
use Rattle.std.proofs.lemmas.Bool.{eqb-true, eq-eqb, lt-ltb, true≢false}
use Rattle.std.proofs.lemmas.List.{get_or-set_same, get_or-set_other}
use Rattle.hop_base.specs.Run.{ScriptLines, RunSettings}
use Rattle.hop_event.specs.Legal.{Rules}
use Rattle.hop_machine.specs.declared.words.Turn.{Turn}
use Rattle.hop_machine.specs.declared.words.Who.TheVariants as whose
use Rattle.hop_machine.specs.step.Steps.{Deeds, Steps, Runs, Then, AskWinner}
use Rattle.hop_machine.specs.home.Conditions.{May, Safe}
use Rattle.hop_machine.specs.actors.MapperTurns.{Mapper, with_attempt, begun_work, begun_with, begins, backs_up, nothing_left}
use Rattle.hop_machine.specs.actors.MapperTurns as machine
use Rattle.hop_mapper.specs.declared.work.Work.TheVariants as work
use Rattle.hop_mapper.specs.Mappers.{MapperValue, mapper_of}

count_at : (xs : List ℕ) (i j n : ℕ) (b : Bool) → (i == j) ≡ b → i < length xs → slice_index (slice_set xs i n) j ≡ (if b && true then n else slice_index xs j)
count_at xs i j n true e h = let s : i ≡ j = eqb-true i j e in subst (λ k. slice_index (slice_set xs i n) k ≡ n) s (get_or-set_same xs i n 0 h)
count_at xs i j n false e h = get_or-set_other xs i j n 0 (λ s. true≢false (sym (eq-eqb i j (sym s)) ∙ e))

counts_with : (rules : Rules) (xs : List ℕ) (i a : ℕ) → nat_lt a rules.attempts ≡ true → i < length xs → ◌≡◌ {A = ℕ → ℕ} (λ j. slice_index (slice_set xs i (a + 1)) j) (begun_with rules (λ j. slice_index xs j) i a)
counts_with rules xs i a l h = fun_ext (λ j. count_at xs i j (a + 1) (i == j) refl h ∙ ap (λ t. if (i == j) && t then a + 1 else slice_index xs j) (sym l))

module _ (records : List (List ℕ)) (script : ScriptLines) (settings : RunSettings) {V K : Type 0} (m : MapperValue V K) (i a : ℕ) where
  -- the attempt is begun
  pub first_attempt : a < settings.attempts → i < length m.begun
      → mapper_of records script settings (record m { work = work.Runs (record { split = i; attempt = a; done = 0 }); begun = slice_set m.begun i (a + 1) }) ≡ with_attempt (mapper_of records script settings m) i a
  first_attempt below h =
      let l : nat_lt a settings.attempts ≡ true = lt-ltb a settings.attempts below in
      let rules = (mapper_of records script settings m).rules in
      let counts = counts_with rules m.begun i a l h in
      λ k. record (mapper_of records script settings m) { work = if sym l k then machine.Runs (record { split = i; attempt = a; done = 0 }) else machine.Free; begun = counts k }

module _ (parts : ℕ) (e : Bool) (m : Mapper) (n i : ℕ) (h : i < n) where
  unrolled : backs_up m (n - i) i ≡ Then (AskWinner (whose.Mapper m.number) i) (λ o. if is_none o then begins (record m { place = i + 1 }) i else backs_up m (n - (i + 1)) (i + 1))
  unrolled = let s : n - i ≡ suc (n - (i + 1)) = omega arith in ap (λ k. backs_up m k i) s

  module _ (a : Deeds) where
    opened : Safe parts e (backs_up m (n - i) i) a → Safe parts e (Then (AskWinner (whose.Mapper m.number) i) (λ o. if is_none o then begins (record m { place = i + 1 }) i else backs_up m (n - (i + 1)) (i + 1))) a
    opened s = subst (λ k. Safe parts e k a) unrolled s

    -- it may ask for the winner of the next split
    pub may_ask : Safe parts e (backs_up m (n - i) i) a → May parts (AskWinner (whose.Mapper m.number) i) a
    may_ask s = (opened s).0

    module _ (o : Option ℕ) (b : Deeds) (step : Steps e (AskWinner (whose.Mapper m.number) i) o a b) where
      -- a split without a winner gets an attempt
      pub found_safe : o ≡ None → Safe parts e (backs_up m (n - i) i) a → Safe parts e (begins (record m { place = i + 1 }) i) b
      found_safe none s = subst (λ (x : Option ℕ). Safe parts e (if is_none x then begins (record m { place = i + 1 }) i else backs_up m (n - (i + 1)) (i + 1)) b) none ((opened s).1 o b step)

      pub found_runs : o ≡ None → (x : Mapper × Turn) (d : Deeds) → Runs e (begins (record m { place = i + 1 }) i) b x d → Runs e (backs_up m (n - i) i) a x d
      found_runs none x d r =
          subst (λ k. Runs e k a x d) (sym unrolled) (o, b, step, subst (λ (y : Option ℕ). Runs e (if is_none y then begins (record m { place = i + 1 }) i else backs_up m (n - (i + 1)) (i + 1)) b x d) (sym none) r)

      -- and else the next one is looked at
      pub next_safe : (w : ℕ) → o ≡ Some w → Safe parts e (backs_up m (n - i) i) a → Safe parts e (backs_up m (n - (i + 1)) (i + 1)) b
      next_safe w some s = subst (λ (x : Option ℕ). Safe parts e (if is_none x then begins (record m { place = i + 1 }) i else backs_up m (n - (i + 1)) (i + 1)) b) some ((opened s).1 o b step)

      pub next_runs : (w : ℕ) → o ≡ Some w → (x : Mapper × Turn) (d : Deeds) → Runs e (backs_up m (n - (i + 1)) (i + 1)) b x d → Runs e (backs_up m (n - i) i) a x d
      next_runs w some x d r =
          subst (λ k. Runs e k a x d) (sym unrolled) (o, b, step, subst (λ (y : Option ℕ). Runs e (if is_none y then begins (record m { place = i + 1 }) i else backs_up m (n - (i + 1)) (i + 1)) b x d) (sym some) r)

-- where no split is left to look at, nothing is
pub none_left : (e : Bool) (m : Mapper) (n i : ℕ) (a : Deeds) → n ≤ i → Runs e (backs_up m (n - i) i) a (nothing_left m) a
none_left e m n i a h = let z : n - i ≡ 0 = omega arith in subst (λ k. Runs e (backs_up m k i) a (nothing_left m) a) (sym z) (refl, refl)
