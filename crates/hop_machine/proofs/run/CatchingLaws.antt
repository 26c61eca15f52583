-- What code needs to know where it catches a reducer up.
use Rattle.std.proofs.Common.{◌≡◌, ◌⊎◌, ℕ, zero, suc, ◌+◌, ◌≤◌, ◌<◌, Bool, true, false, List, [], ◌∷◌, refl, sym, ap, ◌∙◌, subst, inl, inr, Some, arith}
use Rattle.std.specs.List.{slice_get}
use Rattle.hop_base.specs.declared.part.Part.{Part}
use Rattle.hop_event.specs.Legal.{Rules}
use Rattle.hop_event.specs.History.{upto}
use Rattle.hop_machine.specs.declared.words.Who.TheVariants as whose
use Rattle.hop_machine.specs.step.Steps.{Deeds, Runs}
use Rattle.hop_machine.specs.actors.MapperTurns.{Mapper}
use Rattle.hop_machine.specs.actors.ReducerTurns.{Reducer, wanted, reads_upto, reads_wants, restart_if_due}
use Rattle.hop_machine.specs.home.Said.{history_of, BeganBy}
use Rattle.hop_machine.specs.home.ReducerHome.{MayPull, IsSetup}
use Rattle.hop_machine.specs.play.Play.{Actors, Row, kept_by, with_row, rows_of_split, pull_row}
use Rattle.hop_machine.specs.run.AllHome.{Ready}
use Rattle.hop_machine.specs.run.Catches.{ReducerAfter, ReducerNow, AreHome, Lagging}
use Rattle.hop_machine.proofs.settling.Passes.{there}
use Rattle.hop_machine.proofs.actors.LockCalls.{lock-only_own, of_row, of_restart}
use Rattle.hop_machine.proofs.mapper.AtHome.{at_home_says, counts_begun}
use Rattle.hop_machine.proofs.run.Moving.{Runs-moved, mapper_still}
use Rattle.hop_machine.proofs.run.AllMoving.{no_mapper}
use Rattle.hop_machine.proofs.run.PullCalls.{PullLeft, restart-after, read-after}
use Rattle.hop_machine.proofs.run.Catching.{lagging-after, row-may, row-after}

pub now-ready : (x : Actors) (p : ℕ) (r : Reducer) (d : Deeds) → Ready x d → slice_get x.reducers p ≡ Some r → ReducerNow r d
now-ready x p r d h g =
    let hr = h.home.reducer p r g in
    let l : p < d.setup.reducers = (let w = there x.reducers p r g in let n = h.home.reducers in omega (arith, w, n)) in
    record { set = h.home.set; after = subst (λ k. ReducerAfter k r d) (sym hr.number) (record { home = hr; «open» = h.«open» p l; none = h.none p l }) }

module _ (e : Bool) (ms : List Mapper) where
  -- where no restart came it is the same, and lags still
  lag-on : (r y : Reducer) (b : Deeds) → PullLeft r (y, Some false) b → IsSetup b.setup → r.lagging ≡ true → AreHome ms b → (y ≡ r) × Lagging ms r b
  lag-on r y b l set lag home =
      let on = l.on refl in (
        on.0,
        record {
          calm = record { now = record { set = set; after = subst (λ (q : Reducer). ReducerAfter r.number q b) on.0 (l.went false refl) }; calm = on.1 };
          lagging = lag;
          mappers = home;
        },
      )

  pub lag-begins : (r y : Reducer) (a b : Deeds) → ReducerNow r a → r.lagging ≡ true → AreHome ms a → Runs e (restart_if_due r) a (y, Some false) b → (y ≡ r) × Lagging ms r b
  lag-begins r y a b now lag home run =
      let z = Runs-moved (whose.Reducer r.number) e (restart_if_due r) a b (y, Some false) (lock-only_own r (restart_if_due r) (of_restart r)) run in
      lag-on r y b (restart-after e r a b (y, Some false) now run) (subst IsSetup (sym z.acted.only.setup) now.set) lag
      (λ w m g. mapper_still (whose.Reducer r.number) a b z w m (no_mapper r.number w) (home w m g))

  pub lag-wants : (r : Reducer) (i n : ℕ) (t : Bool) (a b : Deeds) → Lagging ms r a → Runs e (reads_wants r i n) a t b → Lagging ms r b × (t ≡ wanted (history_of b r.number) i n)
  lag-wants r i n t a b h run =
      let x = read-after e r (λ g. wanted g i n) a b t h.calm run in
      (lagging-after ms r a b h x.2 x.1, x.0)

  pub lag-upto : (r : Reducer) (i n from : ℕ) (a b : Deeds) → Lagging ms r a → Runs e (reads_upto r i n) a from b → Lagging ms r b × (from ≡ upto i n (history_of b r.number)) × (history_of b r.number ≡ history_of a r.number)
  lag-upto r i n from a b h run =
      let x = read-after e r (λ g. upto i n g) a b from h.calm run in
      (lagging-after ms r a b h x.2 x.1, x.0, x.3)

  pub lag-row : (r y : Reducer) (k : Row) (a b : Deeds) → Lagging ms r a → k.end ≡ kept_by ms k.split k.attempt → Runs e (pull_row k r) a (y, Some false) b → (y ≡ r) × Lagging ms r b
  lag-row r y k a b h is run =
      let z = Runs-moved (whose.Reducer r.number) e (pull_row k r) a b (y, Some false) (lock-only_own r (pull_row k r) (of_row r k)) run in
      lag-on r y b (row-after e ms r k a b (y, Some false) h is run) (subst IsSetup (sym z.acted.only.setup) h.calm.now.set) h.lagging
      (λ w m g. mapper_still (whose.Reducer r.number) a b z w m (no_mapper r.number w) (h.mappers w m g))

pub lag-may : (ms : List Mapper) (r : Reducer) (d : Deeds) (part : Part) → Lagging ms r d → wanted (history_of d r.number) part.split part.attempt ≡ true → part.from ≡ upto part.split part.attempt (history_of d r.number)
    → part.to ≡ kept_by ms part.split part.attempt → part.from < part.to → MayPull r part d
lag-may ms r d part h wants from to less =
    let made : Part = record { split = part.split; attempt = part.attempt; from = upto part.split part.attempt (history_of d r.number); to = kept_by ms part.split part.attempt } in
    let same : made ≡ part = (λ i. record { split = part.split; attempt = part.attempt; from = sym from i; to = sym to i }) in
    subst (λ (q : Part). MayPull r q d) same (row-may ms r d h part.split part.attempt wants (omega (arith, from, to, less)))

-- # Rows

pub few-begun : (ms : List Mapper) (w i : ℕ) (m : Mapper) (d : Deeds) → AreHome ms d → slice_get ms w ≡ Some m → m.begun i ≤ d.setup.attempts
few-begun ms w i m d home g = which ((counts_begun m d (home w m g).home).least i)
  where
    which : (m.begun i ≡ 0) ⊎ ((a : ℕ) × (m.begun i ≡ a + 1) × BeganBy m.rules d m.number i a) → m.begun i ≤ d.setup.attempts
    which (inl z) = omega (arith, z)
    which (inr z) = let below = z.2.below in let is = z.1 in let same : m.rules.attempts ≡ d.setup.attempts = ap (λ (k : Rules). k.attempts) (home w m g).home.fits.rules in omega (arith, is, below, same)

-- nothing is kept of an attempt that nobody began
none-kept : (ms : List Mapper) (i a : ℕ) → ((w : ℕ) (m : Mapper) → slice_get ms w ≡ Some m → m.kept i a ≡ 0) → kept_by ms i a ≡ 0
none-kept [] i a h = refl
none-kept (m ∷ ms) i a h = let x = h zero m refl in let y = none-kept ms i a (λ w n g. h (suc w) n g) in omega (arith, x, y)

unkept : (m : Mapper) (d : Deeds) (i a n : ℕ) → Rattle.hop_machine.specs.home.MapperHome.MapperAtHome m d → m.begun i ≤ n → n ≤ a → m.kept i a ≡ 0
unkept m d i a n h few above = of (m.kept i a) refl
  where
    of : (k : ℕ) → m.kept i a ≡ k → k ≡ 0
    of zero e = refl
    of (suc k) e =
        let some : 0 < m.kept i a = omega (arith, e) in
        let began = (at_home_says m d h).vault i a some in
        let below = (counts_begun m d h).above i a began in
        absurd (omega (arith, below, few, above))

no-rows : (ms : List Mapper) (i a n : ℕ) → ((b : ℕ) → a ≤ b → kept_by ms i b ≡ 0) → rows_of_split ms i a n ≡ []
no-rows ms i a zero h = refl
no-rows ms i a (suc n) h = (λ j. with_row (h a (omega arith) j) (record { split = i; attempt = a; end = kept_by ms i a }) (rows_of_split ms i (a + 1) n)) ∙ no-rows ms i (a + 1) n (λ b l. h b (omega (arith, l)))

with-more : (k : ℕ) (row : Row) (xs ys : List Row) → xs ≡ ys → with_row k row xs ≡ with_row k row ys
with-more k row xs ys e = ap (λ z. with_row k row z) e

-- nothing is kept from a + n on
more-rows : (ms : List Mapper) (i a n t : ℕ) → n ≤ t → ((b : ℕ) → a + n ≤ b → kept_by ms i b ≡ 0) → rows_of_split ms i a t ≡ rows_of_split ms i a n
more-rows ms i a zero t l h = no-rows ms i a t (λ b k. h b (omega (arith, k)))
more-rows ms i a (suc n) zero l h = absurd (omega (arith, l))
more-rows ms i a (suc n) (suc t) l h =
    with-more (kept_by ms i a) (record { split = i; attempt = a; end = kept_by ms i a }) (rows_of_split ms i (a + 1) t) (rows_of_split ms i (a + 1) n) (more-rows ms i (a + 1) n t (omega (arith, l)) (λ b k. h b (omega (arith, k))))

pub begun-rows : (ms : List Mapper) (i n : ℕ) (d : Deeds) → AreHome ms d → ((w : ℕ) (m : Mapper) → slice_get ms w ≡ Some m → m.begun i ≤ n) → n ≤ d.setup.attempts → rows_of_split ms i 0 d.setup.attempts ≡ rows_of_split ms i 0 n
begun-rows ms i n d home few l = more-rows ms i 0 n d.setup.attempts l (λ b le. none-kept ms i b (λ w m g. unkept m d i b n (home w m g).home (few w m g) (omega (arith, le))))
