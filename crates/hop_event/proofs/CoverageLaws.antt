-- The attempt with the most records.
use Rattle.std.proofs.Common.{◌≡◌, ℕ, zero, suc, ◌+◌, ◌<◌, ◌≤◌, Bool, true, false, cond, if◌then◌else◌, Option, Some, None, refl, sym, ap, ◌∙◌, subst, arith, add-one, nat_lt}
use Rattle.std.proofs.lemmas.Bool.Decides.{nat_tests}
use Rattle.hop_event.specs.declared.declared.Declared.{Declared}
use Rattle.hop_event.specs.Coverage.{leader, records_of}

pub leader_none : (f : ℕ → ℕ) → leader f 0 ≡ None
unfolding leader
leader_none f = refl

pub leader_more : (f : ℕ → ℕ) (a : ℕ) → leader f (a + 1) ≡ (if nat_lt (records_of (leader f a)) (f a) then Some (record { attempt = a; records = f a; committed = false }) else leader f a)
unfolding leader
leader_more f a = rw (add-one a) refl

pub leader_taken : (f : ℕ → ℕ) (a : ℕ) → records_of (leader f a) < f a → leader f (a + 1) ≡ Some (record { attempt = a; records = f a; committed = false })
leader_taken f a h = let t : nat_lt (records_of (leader f a)) (f a) ≡ true = grind (arith, nat_tests) in leader_more f a ∙ ap (λ (b : Bool). cond b (Some (record { attempt = a; records = f a; committed = false })) (leader f a)) t

pub leader_kept : (f : ℕ → ℕ) (a : ℕ) → f a ≤ records_of (leader f a) → leader f (a + 1) ≡ leader f a
leader_kept f a h = let t : nat_lt (records_of (leader f a)) (f a) ≡ false = grind (arith, nat_tests) in leader_more f a ∙ ap (λ (b : Bool). cond b (Some (record { attempt = a; records = f a; committed = false })) (leader f a)) t

leader_same_step : (f g : ℕ → ℕ) (n : ℕ) → leader f n ≡ leader g n → f n ≡ g n → leader f (suc n) ≡ leader g (suc n)
unfolding leader
leader_same_step f g n e h = ap (λ (p : Option Declared × ℕ). cond (nat_lt (records_of p.0) p.1) (Some (record { attempt = n; records = p.1; committed = false })) p.0) (pair_same e h)
  where
    pair_same : {x y : Option Declared} {m k : ℕ} → x ≡ y → m ≡ k → ◌≡◌ {A = Option Declared × ℕ} (x, m) (y, k)
    pair_same e h = cc

pub leader_same : (f g : ℕ → ℕ) (n : ℕ) → ((a : ℕ) → a < n → f a ≡ g a) → leader f n ≡ leader g n
leader_same f g zero h = leader_none f ∙ sym (leader_none g)
leader_same f g (suc n) h = leader_same_step f g n (leader_same f g n (λ a k. h a (omega arith))) (h n (omega arith))

pub leader_nothing : (f : ℕ → ℕ) (n : ℕ) → ((a : ℕ) → a < n → f a ≡ 0) → leader f n ≡ None
leader_nothing f zero h = leader_none f
leader_nothing f (suc n) h =
    let r = leader_nothing f n (λ a k. h a (omega arith)) in
    let z : f n ≤ records_of (leader f n) = omega (arith, h n (omega arith)) in
    subst (λ k. leader f k ≡ None) (add-one n) (leader_kept f n z ∙ r)

leader_within_step : (f : ℕ → ℕ) (n m : ℕ) → records_of (leader f n) ≤ m → f n ≤ m → (b : Bool) → nat_lt (records_of (leader f n)) (f n) ≡ b → records_of (leader f (suc n)) ≤ m
unfolding leader
leader_within_step f n m r k true e = rw e k
leader_within_step f n m r k false e = rw e r

pub leader_within : (f : ℕ → ℕ) (n m : ℕ) → ((a : ℕ) → a < n → f a ≤ m) → records_of (leader f n) ≤ m
leader_within f zero m h = rw (leader_none f) (omega arith)
leader_within f (suc n) m h = leader_within_step f n m (leader_within f n m (λ a k. h a (omega arith))) (h n (omega arith)) (nat_lt (records_of (leader f n)) (f n)) refl
