-- Rows of kept spills, pulled one after another.
use Rattle.std.proofs.Common.{◌≡◌, ℕ, zero, suc, ◌+◌, ◌-◌, ◌≤◌, ◌<◌, Bool, true, false, List, [], ◌∷◌, ◌++◌, append-nil, append_assoc, refl, sym, ap, ◌∙◌, subst, cond, nat_lt, Option, Some, None, arith}
use Rattle.std.proofs.lemmas.Bool.{lt-ltb}
use Rattle.std.specs.List.{slice_get}
use Rattle.hop_base.specs.declared.part.Part.{Part}
use Rattle.hop_machine.specs.step.Steps.{Prog, Done, and_then, Deeds, Runs}
use Rattle.hop_machine.specs.actors.MapperTurns.{Mapper}
use Rattle.hop_machine.specs.actors.ReducerTurns.{Reducer, wanted, reads_wants, reads_upto}
use Rattle.hop_machine.specs.home.Conditions.{HasReducer}
use Rattle.hop_machine.specs.play.Play.{Row, kept_by, with_row, rows_of_split, kept_rows, pull, pull_to, pull_row}
use Rattle.hop_machine.specs.run.Catches.{AreHome, Lagging}
use Rattle.hop_machine.proofs.step.Programs.{Runs-and_then, Runs-parted}
use Rattle.hop_machine.proofs.step.Owners.{Runs-rightly, Runs-ends}
use Rattle.hop_machine.proofs.home.Here.{reducer_kept}
use Rattle.hop_machine.proofs.run.Catching.{AreKept}
use Rattle.hop_machine.proofs.run.CatchingLaws.{lag-row, lag-wants, lag-upto, lag-may, few-begun, begun-rows}
use Rattle.hop_actors.specs.Acting.{MayCall}
use Rattle.hop_settle.specs.Pulled.{MayPullAt}
use Rattle.hop_settle.specs.CaughtUp.{row_of, on_row, pull_each, MayCatch}

-- # Which rows there are

pub with-some : (c : ℕ) (k : Row) (rows : List Row) → 0 < c → with_row c k rows ≡ k ∷ rows
with-some zero k rows l = absurd (omega (arith, l))
with-some (suc c) k rows l = refl

with-rest : (c : ℕ) (k : Row) (xs ys : List Row) → with_row c k (xs ++ ys) ≡ with_row c k xs ++ ys
with-rest zero k xs ys = refl
with-rest (suc c) k xs ys = refl

pub rows-parted : (ms : List Mapper) (i a n m : ℕ) → rows_of_split ms i a (n + m) ≡ rows_of_split ms i a n ++ rows_of_split ms i (a + n) m
rows-parted ms i a zero m = (λ t. rows_of_split ms i (left t) (sum t))
  where
    left : a ≡ a + 0
    left = omega arith

    sum : 0 + m ≡ m
    sum = omega arith
rows-parted ms i a (suc n) m =
    let sum : suc n + m ≡ suc (n + m) = omega arith in
    let at : (a + 1) + n ≡ a + suc n = omega arith in
    ap (rows_of_split ms i a) sum
    ∙ ap (λ rest. with_row (kept_by ms i a) (row_of ms i a) rest) (rows-parted ms i (a + 1) n m)
    ∙ with-rest (kept_by ms i a) (row_of ms i a) (rows_of_split ms i (a + 1) n) (rows_of_split ms i ((a + 1) + n) m)
    ∙ ap (λ b. with_row (kept_by ms i a) (row_of ms i a) (rows_of_split ms i (a + 1) n) ++ rows_of_split ms i b m) at

pub kept-parted : (ms : List Mapper) (limit i n m : ℕ) → kept_rows ms limit i (n + m) ≡ kept_rows ms limit i n ++ kept_rows ms limit (i + n) m
kept-parted ms limit i zero m = (λ t. kept_rows ms limit (left t) (sum t))
  where
    left : i ≡ i + 0
    left = omega arith

    sum : 0 + m ≡ m
    sum = omega arith
kept-parted ms limit i (suc n) m =
    let sum : suc n + m ≡ suc (n + m) = omega arith in
    let at : (i + 1) + n ≡ i + suc n = omega arith in
    ap (kept_rows ms limit i) sum
    ∙ ap (λ rest. rows_of_split ms i 0 limit ++ rest) (kept-parted ms limit (i + 1) n m)
    ∙ sym (append_assoc (rows_of_split ms i 0 limit) (kept_rows ms limit (i + 1) n) (kept_rows ms limit ((i + 1) + n) m))
    ∙ ap (λ b. (rows_of_split ms i 0 limit ++ kept_rows ms limit (i + 1) n) ++ kept_rows ms limit b m) at

-- the row that is next, and those behind it
pub rows-next : (ms : List Mapper) (i k n : ℕ) → k < n → (rest : List Row) × (rows_of_split ms i 0 n ≡ rows_of_split ms i 0 k ++ (rows_of_split ms i k 1 ++ rest))
rows-next ms i k n l =
    let left : ℕ = n - (k + 1) in
    let sum : n ≡ k + (1 + left) = omega (arith, l) in
    let at : 0 + k ≡ k = omega arith in (
      rows_of_split ms i (k + 1) left,
      ap (rows_of_split ms i 0) sum ∙ rows-parted ms i 0 k (1 + left) ∙ ap (λ b. rows_of_split ms i 0 k ++ rows_of_split ms i b (1 + left)) at ∙ ap (λ rows. rows_of_split ms i 0 k ++ rows) (rows-parted ms i k 1 left),
    )

pub rows-more : (ms : List Mapper) (i k : ℕ) → rows_of_split ms i 0 (k + 1) ≡ rows_of_split ms i 0 k ++ rows_of_split ms i k 1
rows-more ms i k = let at : 0 + k ≡ k = omega arith in rows-parted ms i 0 k 1 ∙ ap (λ b. rows_of_split ms i 0 k ++ rows_of_split ms i b 1) at

pub kept-next : (ms : List Mapper) (limit k n : ℕ) → k < n → (rest : List Row) × (kept_rows ms limit 0 n ≡ kept_rows ms limit 0 k ++ (rows_of_split ms k 0 limit ++ rest))
kept-next ms limit k n l =
    let left : ℕ = n - (k + 1) in
    let sum : n ≡ k + suc left = omega (arith, l) in
    let at : 0 + k ≡ k = omega arith in (
      kept_rows ms limit (k + 1) left,
      ap (kept_rows ms limit 0) sum ∙ kept-parted ms limit 0 k (suc left) ∙ ap (λ b. kept_rows ms limit 0 k ++ kept_rows ms limit b (suc left)) at,
    )

pub kept-more : (ms : List Mapper) (limit k : ℕ) → kept_rows ms limit 0 (k + 1) ≡ kept_rows ms limit 0 k ++ rows_of_split ms k 0 limit
kept-more ms limit k =
    let at : 0 + k ≡ k = omega arith in
    kept-parted ms limit 0 k 1 ∙ ap (λ b. kept_rows ms limit 0 k ++ kept_rows ms limit b 1) at ∙ ap (λ rows. kept_rows ms limit 0 k ++ rows) (append-nil (rows_of_split ms k 0 limit))

with-kept : (ms : List Mapper) (c : ℕ) (row : Row) (rows : List Row) → row.end ≡ kept_by ms row.split row.attempt → AreKept ms rows → AreKept ms (with_row c row rows)
with-kept ms zero row rows e h = h
with-kept ms (suc c) row rows e h = (e, h)

pub split-kept : (ms : List Mapper) (i a n : ℕ) → AreKept ms (rows_of_split ms i a n)
split-kept ms i a zero = tt
split-kept ms i a (suc n) = with-kept ms (kept_by ms i a) (row_of ms i a) (rows_of_split ms i (a + 1) n) refl (split-kept ms i (a + 1) n)

-- # One row

module _ (e : Bool) (r : Reducer) (k : Row) (a m : Deeds) where
  abbrev behind : Bool → Prog (Reducer × Option Bool)
  behind t = cond t (and_then (reads_upto r k.split k.attempt) (λ from. pull_to k.split k.attempt k.end from r)) (Done (r, Some false))

  abbrev range : ℕ → Part
  range from = record { split = k.split; attempt = k.attempt; from = from; to = k.end }

  pub row-unwanted : Runs e (reads_wants r k.split k.attempt) a false m → Runs e (pull_row k r) a (r, Some false) m
  row-unwanted run = Runs-and_then e (reads_wants r k.split k.attempt) behind a m m false (r, Some false) run (refl, refl)

  to-end : (t : Bool) (from : ℕ) (n b : Deeds) (y : Reducer × Option Bool) → nat_lt from k.end ≡ t → Runs e (cond t (pull (range from) r) (Done (r, Some false))) n y b → Runs e (pull_to k.split k.attempt k.end from r) n y b
  to-end t from n b y is run = subst (λ (s : Bool). Runs e (cond s (pull (range from) r) (Done (r, Some false))) n y b) (sym is) run

  pub row-there : (from : ℕ) (b : Deeds) → Runs e (reads_wants r k.split k.attempt) a true m → Runs e (reads_upto r k.split k.attempt) m from b → nat_lt from k.end ≡ false → Runs e (pull_row k r) a (r, Some false) b
  row-there from b run up not =
      Runs-and_then e (reads_wants r k.split k.attempt) behind a m b true (r, Some false) run
      (Runs-and_then e (reads_upto r k.split k.attempt) (λ from. pull_to k.split k.attempt k.end from r) m b b from (r, Some false) up (to-end false from b b (r, Some false) not (refl, refl)))

  pub row-lacks : (from : ℕ) (n b : Deeds) (y : Reducer × Option Bool) → Runs e (reads_wants r k.split k.attempt) a true m → Runs e (reads_upto r k.split k.attempt) m from n → from < k.end → Runs e (pull (range from) r) n y b → Runs e (pull_row k r) a y b
  row-lacks from n b y run up less pulled =
      Runs-and_then e (reads_wants r k.split k.attempt) behind a m b true y run
      (Runs-and_then e (reads_upto r k.split k.attempt) (λ from. pull_to k.split k.attempt k.end from r) m n b from y up (to-end true from n b y (lt-ltb from k.end less) pulled))

-- # Row by row

module _ (e : Bool) where
  one-more : (t : Option Bool) (y : Reducer) (b : Deeds) → Runs e (on_row t y (Done (y, Some false))) b (y, t) b
  one-more None y b = (refl, refl)
  one-more (Some true) y b = (refl, refl)
  one-more (Some false) y b = (refl, refl)

  -- the row of an attempt of which something was kept
  pub each-one : (ms : List Mapper) (i n : ℕ) (r : Reducer) (a b : Deeds) (y : Reducer) (t : Option Bool) → 0 < kept_by ms i n → Runs e (pull_row (row_of ms i n) r) a (y, t) b → Runs e (pull_each (rows_of_split ms i n 1) r) a (y, t) b
  each-one ms i n r a b y t some run =
      subst (λ (rows : List Row). Runs e (pull_each rows r) a (y, t) b) (sym (with-some (kept_by ms i n) (row_of ms i n) [] some))
      (Runs-and_then e (pull_row (row_of ms i n) r) (λ x. on_row x.1 x.0 (Done (x.0, Some false))) a b b (y, t) (y, t) run (one-more t y b))

  -- and of one of which nothing was
  pub each-none : (ms : List Mapper) (i n : ℕ) (r : Reducer) (a : Deeds) → kept_by ms i n ≡ 0 → Runs e (pull_each (rows_of_split ms i n 1) r) a (r, Some false) a
  each-none ms i n r a none =
      let same : with_row (kept_by ms i n) (row_of ms i n) [] ≡ [] = ap (λ c. with_row c (row_of ms i n) []) none in
      subst (λ (rows : List Row). Runs e (pull_each rows r) a (r, Some false) a) (sym same) (refl, refl)

  Answer : Type 0
  Answer = Reducer × Option Bool

  goes : (t : Option Bool) (z : Reducer) (xs ys : List Row) (c b m : Deeds) (r : Reducer) (y : Reducer × Option Bool) → Runs e (on_row t z (pull_each xs z)) c (r, Some false) m → Runs e (pull_each ys r) m y b
      → (Runs e (pull_each xs z) c (r, Some false) m → Runs e (pull_each (xs ++ ys) z) c y b) → Runs e (on_row t z (pull_each (xs ++ ys) z)) c y b
  goes None z xs ys c b m r y run later more = let no : None ≡ Some false = sym (ap (λ (w : Reducer × Option Bool). w.1) run.0) in cc
  goes (Some true) z xs ys c b m r y run later more = let no : Some true ≡ Some false = sym (ap (λ (w : Reducer × Option Bool). w.1) run.0) in cc
  goes (Some false) z xs ys c b m r y run later more = more run

  pub each-both : (xs ys : List Row) (r s : Reducer) (a m b : Deeds) (y : Reducer × Option Bool) → Runs e (pull_each xs r) a (s, Some false) m → Runs e (pull_each ys s) m y b → Runs e (pull_each (xs ++ ys) r) a y b
  each-both [] ys r s a m b y run later =
      subst (λ (z : Reducer × Deeds). Runs e (pull_each ys z.0) z.1 y b) (λ i. ((ap (λ (w : Reducer × Option Bool). w.0) run.0) i, run.1 i)) later
  each-both (k ∷ xs) ys r s a m b y run later =
      let t = Runs-parted e (pull_row k r) (λ x. on_row x.1 x.0 (pull_each xs x.0)) a m (s, Some false) run in
      Runs-and_then e (pull_row k r) (λ x. on_row x.1 x.0 (pull_each (xs ++ ys) x.0)) a t.mid b t.answer y t.first
      (goes t.answer.1 t.answer.0 xs ys t.mid b m s y t.later later (λ h. each-both xs ys t.answer.0 s t.mid m b y h later))

  stops : (t : Option Bool) (z : Reducer) (xs ys : List Row) (c b : Deeds) (y : Reducer × Option Bool) → Runs e (on_row t z (pull_each xs z)) c y b → (Runs e (pull_each xs z) c y b → Runs e (pull_each (xs ++ ys) z) c y b) → Runs e (on_row t z (pull_each (xs ++ ys) z)) c y b
  stops None z xs ys c b y run more = run
  stops (Some true) z xs ys c b y run more = run
  stops (Some false) z xs ys c b y run more = more run

  -- where it stopped, or a restart came, the rows behind are not looked at
  pub each-stops : (xs ys : List Row) (r : Reducer) (a b : Deeds) (y : Reducer × Option Bool) → (y.1 ≡ Some false → ⊥) → Runs e (pull_each xs r) a y b → Runs e (pull_each (xs ++ ys) r) a y b
  each-stops [] ys r a b y off run = absurd (off (ap (λ (w : Reducer × Option Bool). w.1) run.0))
  each-stops (k ∷ xs) ys r a b y off run =
      let t = Runs-parted e (pull_row k r) (λ x. on_row x.1 x.0 (pull_each xs x.0)) a b y run in
      Runs-and_then e (pull_row k r) (λ x. on_row x.1 x.0 (pull_each (xs ++ ys) x.0)) a t.mid b t.answer y t.first
      (stops t.answer.1 t.answer.0 xs ys t.mid b y t.later (λ h. each-stops xs ys t.answer.0 t.mid b y off h))

  pub each-ends : (all xs ys rest : List Row) (r s : Reducer) (a m b : Deeds) (y : Reducer × Option Bool) → all ≡ xs ++ (ys ++ rest) → (y.1 ≡ Some false → ⊥) → Runs e (pull_each xs r) a (s, Some false) m → Runs e (pull_each ys s) m y b → Runs e (pull_each all r) a y b
  each-ends all xs ys rest r s a m b y are off run later =
      subst (λ (rows : List Row). Runs e (pull_each rows r) a y b) (sym are) (each-both xs (ys ++ rest) r s a m b y run (each-stops ys rest s m b y off later))

  -- where none came, the reducer lags still
  module _ (ms : List Mapper) where
    on-row : (t : Option Bool) (z r y : Reducer) (xs : List Row) (k : Row) (a c b : Deeds) → Lagging ms r a → k.end ≡ kept_by ms k.split k.attempt → Runs e (pull_row k r) a (z, t) c → Runs e (on_row t z (pull_each xs z)) c (y, Some false) b
        → (Lagging ms r c → Runs e (pull_each xs r) c (y, Some false) b → (y ≡ r) × Lagging ms r b) → (y ≡ r) × Lagging ms r b
    on-row None z r y xs k a c b h is run later more = let no : None ≡ Some false = sym (ap (λ (w : Reducer × Option Bool). w.1) later.0) in cc
    on-row (Some true) z r y xs k a c b h is run later more = let no : Some true ≡ Some false = sym (ap (λ (w : Reducer × Option Bool). w.1) later.0) in cc
    on-row (Some false) z r y xs k a c b h is run later more =
        let s = lag-row e ms r z k a c h is run in
        more s.1 (subst (λ (w : Reducer). Runs e (pull_each xs w) c (y, Some false) b) s.0 later)

    pub each-on : (rows : List Row) (r y : Reducer) (a b : Deeds) → AreKept ms rows → Lagging ms r a → Runs e (pull_each rows r) a (y, Some false) b → (y ≡ r) × Lagging ms r b
    each-on [] r y a b kept h run = (ap (λ (w : Reducer × Option Bool). w.0) run.0, subst (λ (d : Deeds). Lagging ms r d) (sym run.1) h)
    each-on (k ∷ rows) r y a b kept h run =
        let t = Runs-parted e (pull_row k r) (λ x. on_row x.1 x.0 (pull_each rows x.0)) a b (y, Some false) run in
        on-row t.answer.1 t.answer.0 r y rows k a t.mid b h kept.0 t.first t.later (λ l q. each-on rows r y t.mid b kept.1 l q)

-- # At home between the calls

pub catch-call : (ms : List Mapper) (p : ℕ) (r : Reducer) (d : Deeds) → MayCatch ms p r d → MayCall r d
catch-call ms p r d h = record { setup = h.lags.calm.now.set; home = h.lags.calm.now.after.home.home; ends = subst (λ q. HasReducer q d) (sym h.number) h.ends }

pub catch-kept : {A : Type 0} (e : Bool) (ms : List Mapper) (p : ℕ) (r : Reducer) (k : Prog A) (y : A) (a b : Deeds) → MayCatch ms p r a → Runs e k a y b → Lagging ms r b → MayCatch ms p r b
catch-kept e ms p r k y a b h run lags = record { number = h.number; lags = lags; ends = reducer_kept p a b (Runs-rightly e k a b y run).setup (Runs-ends e k a b y run) h.ends }

module _ (e : Bool) (ms : List Mapper) (p : ℕ) (r : Reducer) (i n : ℕ) (a m : Deeds) (h : MayCatch ms p r a) where
  pub catch-wants : (t : Bool) → Runs e (reads_wants r i n) a t m → MayCatch ms p r m
  catch-wants t run = catch-kept e ms p r (reads_wants r i n) t a m h run (lag-wants e ms r i n t a m h.lags run).0

  pub catch-upto : (from : ℕ) → Runs e (reads_upto r i n) a from m → MayCatch ms p r m
  catch-upto from run = catch-kept e ms p r (reads_upto r i n) from a m h run (lag-upto e ms r i n from a m h.lags run).0

pub catch-pull : (e : Bool) (ms : List Mapper) (p : ℕ) (r : Reducer) (i n from : ℕ) (a m b : Deeds) → MayCatch ms p r a → Runs e (reads_wants r i n) a true m → Runs e (reads_upto r i n) m from b → from < kept_by ms i n
    → MayPullAt p (record { split = i; attempt = n; from = from; to = kept_by ms i n }) r b
catch-pull e ms p r i n from a m b h run up less =
    let one = lag-wants e ms r i n true a m h.lags run in
    let two = lag-upto e ms r i n from m b one.0 up in
    let now = catch-upto e ms p r i n m b (catch-wants e ms p r i n a m h true run) from up in
    record {
      number = h.number;
      call = catch-call ms p r b now;
      pull = lag-may ms r b (record { split = i; attempt = n; from = from; to = kept_by ms i n }) two.0 (ap (λ z. wanted z i n) two.2 ∙ sym one.1) two.1 refl less;
    }

-- # In a loop over attempts, and in one over splits

module _ (e : Bool) (ms ns : List Mapper) (same : ns ≡ ms) (r s : Reducer) (a m b : Deeds) (y : Reducer) where
  module _ (i k : ℕ) (before : Runs e (pull_each (rows_of_split ms i 0 k) r) a (s, Some false) m) where
    at-first : (t : Option Bool) → Runs e (pull_each (rows_of_split ns i k 1) s) m (y, t) b → Runs e (pull_each (rows_of_split ms i k 1) s) m (y, t) b
    at-first t run = subst (λ (l : List Mapper). Runs e (pull_each (rows_of_split l i k 1) s) m (y, t) b) same run

    pub attempts-on : Runs e (pull_each (rows_of_split ns i k 1) s) m (y, Some false) b → Runs e (pull_each (rows_of_split ms i 0 (k + 1)) r) a (y, Some false) b
    attempts-on run =
        subst (λ (rows : List Row). Runs e (pull_each rows r) a (y, Some false) b) (sym (rows-more ms i k))
        (each-both e (rows_of_split ms i 0 k) (rows_of_split ms i k 1) r s a m b (y, Some false) before (at-first (Some false) run))

    pub attempts-end : (n : ℕ) (t : Option Bool) → k < n → (t ≡ Some false → ⊥) → Runs e (pull_each (rows_of_split ns i k 1) s) m (y, t) b → Runs e (pull_each (rows_of_split ms i 0 n) r) a (y, t) b
    attempts-end n t l off run =
        let x = rows-next ms i k n l in
        each-ends e (rows_of_split ms i 0 n) (rows_of_split ms i 0 k) (rows_of_split ms i k 1) x.0 r s a m b (y, t) x.1 off before (at-first t run)

  module _ (limit bound k : ℕ) (level : bound ≡ limit) (before : Runs e (pull_each (kept_rows ms limit 0 k) r) a (s, Some false) m) where
    at-split : (t : Option Bool) → Runs e (pull_each (rows_of_split ns k 0 bound) s) m (y, t) b → Runs e (pull_each (rows_of_split ms k 0 limit) s) m (y, t) b
    at-split t run = subst (λ (l : List Mapper × ℕ). Runs e (pull_each (rows_of_split l.0 k 0 l.1) s) m (y, t) b) (λ j. (same j, level j)) run

    pub splits-on : Runs e (pull_each (rows_of_split ns k 0 bound) s) m (y, Some false) b → Runs e (pull_each (kept_rows ms limit 0 (k + 1)) r) a (y, Some false) b
    splits-on run =
        subst (λ (rows : List Row). Runs e (pull_each rows r) a (y, Some false) b) (sym (kept-more ms limit k))
        (each-both e (kept_rows ms limit 0 k) (rows_of_split ms k 0 limit) r s a m b (y, Some false) before (at-split (Some false) run))

    pub splits-end : (n : ℕ) (t : Option Bool) → k < n → (t ≡ Some false → ⊥) → Runs e (pull_each (rows_of_split ns k 0 bound) s) m (y, t) b → Runs e (pull_each (kept_rows ms limit 0 n) r) a (y, t) b
    splits-end n t l off run =
        let x = kept-next ms limit k n l in
        each-ends e (kept_rows ms limit 0 n) (kept_rows ms limit 0 k) (rows_of_split ms k 0 limit) x.0 r s a m b (y, t) x.1 off before (at-split t run)

-- the reducer may be caught up further
pub catch-on : (e : Bool) (ns os : List Mapper) (p i n k : ℕ) (s y : Reducer) (a b : Deeds) → os ≡ ns → MayCatch ns p s a → Runs e (pull_each (rows_of_split ns i n k) s) a (y, Some false) b → MayCatch os p y b
catch-on e ns os p i n k s y a b same h run =
    let x = each-on e ns (rows_of_split ns i n k) s y a b (split-kept ns i n k) h.lags run in
    subst (λ (z : List Mapper × Reducer). MayCatch z.0 p z.1 b) (λ j. (sym same j, sym x.0 j)) (catch-kept e ns p s (pull_each (rows_of_split ns i n k) s) (y, Some false) a b h run x.1)

pub setup-on : {A : Type 0} (e : Bool) (k : Prog A) (y : A) (a b : Deeds) → Runs e k a y b → b.setup ≡ a.setup
setup-on e k y a b run = (Runs-rightly e k a b y run).setup

-- the rows of a split up to the attempts that were begun are all its rows
pub all-attempts : (ms : List Mapper) (i n : ℕ) (d : Deeds) → AreHome ms d → ((w : ℕ) (m : Mapper) → slice_get ms w ≡ Some m → m.begun i ≤ n)
    → ((k : ℕ) → ((w : ℕ) (m : Mapper) → slice_get ms w ≡ Some m → m.begun i ≤ k) → n ≤ k) → rows_of_split ms i 0 d.setup.attempts ≡ rows_of_split ms i 0 n
all-attempts ms i n d home most least = begun-rows ms i n d home most (least d.setup.attempts (λ w m g. few-begun ms w i m d home g))

pub not-none : {t : Option Bool} → t ≡ None → t ≡ Some false → ⊥
not-none h k = let no : None ≡ Some false = sym h ∙ k in cc

pub not-true : Some true ≡ Some false → ⊥
not-true h = cc
