-- A call at each lane in turn, as the program of all lanes.
use Rattle.std.proofs.Common.{◌≡◌, ℕ, zero, suc, ◌+◌, ◌<◌, eqb, cond, Bool, true, false, List, [], ◌∷◌, ◌++◌, length, take, drop, get_or, refl, sym, ap, ◌∙◌, subst, arith, append-nil, append_assoc}
use Rattle.std.specs.Prelude.{slice_set}
use Rattle.std.proofs.lemmas.Bool.{eqb-true, eq-eqb, true≢false}
use Rattle.std.proofs.lemmas.List.{get_or-set_same, get_or-set_other, take-set, drop-set-lt, take_more_set, drop_more, map-append, length-set, take_all, drop_all, take-append-drop}
use Rattle.hop_machine.specs.declared.words.Message.{Message as Said}
use Rattle.hop_machine.specs.step.Steps.{Deeds, Prog, Done, Then, and_then, Runs}
use Rattle.hop_machine.specs.actors.MapperTurns.{Lane, Lanes, each_lane}
use Rattle.hop_machine.specs.home.Conditions.{Safe}
use Rattle.hop_machine.proofs.step.Programs.{Runs-and_then}
use Rattle.hop_inner.proofs.Safety.{safe_after}
use Rattle.hop_press.specs.Held.{LaneValue, no_lane, lane_at, said_lane, said_lanes, OnlyAt}

pub safe_first : {A B : Type 0} (parts : ℕ) (e : Bool) (k : Prog A) (f : A → Prog B) (a : Deeds) → Safe parts e (and_then k f) a → Safe parts e k a
safe_first parts e (Done x) f a h = tt
safe_first parts e (Then s k) f a h = (h.0, λ o b st. safe_first parts e (k o) f b (h.1 o b st))

module _ (parts : ℕ) (e : Bool) (f : ℕ → List Said → Prog Lane) (p : ℕ) (h : List Said) (hs : List (List Said)) (a b : Deeds) (held : List Said) where
  -- what the program goes on with after a lane
  abbrev pub rest : Lane → Prog Lanes
  rest x = cond x.went (and_then (each_lane f (p + 1) hs) (λ (xs : Lanes). Done (record { went = xs.went; held = x.held ∷ xs.held }))) (Done (record { went = false; held = x.held ∷ hs }))

  next_safe : Safe parts e (each_lane f p (h ∷ hs)) a → Runs e (f p h) a (record { went = true; held = held }) b → Safe parts e (each_lane f (p + 1) hs) b
  next_safe s r = safe_first parts e (each_lane f (p + 1) hs) (λ (xs : Lanes). Done (record { went = xs.went; held = held ∷ xs.held })) b (safe_after parts e (f p h) rest a b (record { went = true; held = held }) s r)

  next_runs : Runs e (f p h) a (record { went = true; held = held }) b → (x : Lanes) (d : Deeds) → Runs e (each_lane f (p + 1) hs) b x d → Runs e (each_lane f p (h ∷ hs)) a (record { went = x.went; held = held ∷ x.held }) d
  next_runs r x d t =
      Runs-and_then e (f p h) rest a b d (record { went = true; held = held }) (record { went = x.went; held = held ∷ x.held }) r
      (Runs-and_then e (each_lane f (p + 1) hs) (λ (xs : Lanes). Done (record { went = xs.went; held = held ∷ xs.held })) b d d x (record { went = x.went; held = held ∷ x.held }) t (refl, refl))

  stopped_runs : Runs e (f p h) a (record { went = false; held = held }) b → Runs e (each_lane f p (h ∷ hs)) a (record { went = false; held = held ∷ hs }) b
  stopped_runs r = Runs-and_then e (f p h) rest a b b (record { went = false; held = held }) (record { went = false; held = held ∷ hs }) r (refl, refl)

-- an element that is there is the same by any default
pub any_default : {X : Type 0} (xs : List X) (p : ℕ) (x y : X) → p < length xs → get_or xs p x ≡ get_or xs p y
any_default [] p x y lt = absurd (omega arith)
any_default (l ∷ xs) zero x y lt = refl
any_default (l ∷ xs) (suc p) x y lt = any_default xs p x y (omega arith)

module _ {K : Type 0} where
  -- what each lane meets, they meet where one of them is set
  pub each_set : (P : ℕ → LaneValue K → Type 0) (old new : List (LaneValue K)) (p : ℕ) → p < length old → OnlyAt p old new → ((q : ℕ) → P q (lane_at old q)) → P p (lane_at new p) → (q : ℕ) → P q (lane_at new q)
  each_set P old new p lt only h here q = step (eqb q p) refl
    where
      step : (b : Bool) → (eqb q p) ≡ b → P q (lane_at new q)
      step true s = subst (λ k. P k (lane_at new k)) (sym (eqb-true q p s)) here
      step false s = subst (λ (x : LaneValue K). P q x) (sym (ap (λ (ls : List (LaneValue K)). lane_at ls q) only ∙ get_or-set_other old p q (lane_at new p) no_lane (λ (k : q ≡ p). true≢false (sym (eq-eqb q p k) ∙ s)))) (h q)

  pub set_each : (P : ℕ → LaneValue K → Type 0) (ls : List (LaneValue K)) (p : ℕ) (x : LaneValue K) → p < length ls → ((q : ℕ) → P q (lane_at ls q)) → P p x → (q : ℕ) → P q (lane_at (slice_set ls p x) q)
  set_each P ls p x lt h here q =
      let same : lane_at (slice_set ls p x) p ≡ x = get_or-set_same ls p x no_lane lt in
      each_set P ls (slice_set ls p x) p lt (ap (λ (y : LaneValue K). slice_set ls p y) (sym same)) h (subst (λ (y : LaneValue K). P p y) (sym same) here) q

  pub set_len : (old new : List (LaneValue K)) (p : ℕ) → OnlyAt p old new → length new ≡ length old
  set_len old new p only = ap (λ (ls : List (LaneValue K)). length ls) only ∙ length-set old p (lane_at new p)

  pub there : (ls : List (LaneValue K)) (p : ℕ) (x : LaneValue K) → p < length ls → x ≡ get_or ls p x → x ≡ lane_at ls p
  there ls p x lt h = h ∙ any_default ls p x no_lane lt

  pub is_only : (ls : List (LaneValue K)) (p : ℕ) (x : LaneValue K) → p < length ls → OnlyAt p ls (slice_set ls p x)
  is_only ls p x lt = ap (λ (y : LaneValue K). slice_set ls p y) (sym (get_or-set_same ls p x no_lane lt))

module _ {K : Type 0} (parts : ℕ) (e : Bool) (f : ℕ → List Said → Prog Lane) (first : List (LaneValue K)) (start : Deeds) where
  -- The first p lanes were called. What is left is safe, and whatever runs it has run the whole.
  pub record Between (p : ℕ) (lanes : List (LaneValue K)) (now : Deeds) : Type 0 where
    pub len : length lanes ≡ length first
    pub safe : Safe parts e (each_lane f p (said_lanes (drop p lanes))) now
    pub completes : (x : Lanes) (d : Deeds) → Runs e (each_lane f p (said_lanes (drop p lanes))) now x d → Runs e (each_lane f 0 (said_lanes first)) start (record { went = x.went; held = said_lanes (take p lanes) ++ x.held }) d

  module _ (p : ℕ) (lanes : List (LaneValue K)) (now : Deeds) (at : Between p lanes now) where
    ends_at : p ≡ length lanes → drop p lanes ≡ []
    ends_at is = ap (λ n. drop n lanes) is ∙ drop_all (length lanes) lanes (omega arith)

    pub between_ends : p ≡ length lanes → Runs e (each_lane f 0 (said_lanes first)) start (record { went = true; held = said_lanes lanes }) now
    between_ends is =
        let none : drop p lanes ≡ [] = ends_at is in
        let all : take p lanes ≡ lanes = ap (λ n. take n lanes) is ∙ take_all (length lanes) lanes (omega arith) in
        let run : Runs e (each_lane f p (said_lanes (drop p lanes))) now (record { went = true; held = [] }) now = subst (λ (ls : List (LaneValue K)). Runs e (each_lane f p (said_lanes ls)) now (record { went = true; held = [] }) now) (sym none) (refl, refl) in
        let held : said_lanes (take p lanes) ++ [] ≡ said_lanes lanes = append-nil (said_lanes (take p lanes)) ∙ ap said_lanes all in
        subst (λ (t : List (List Said)). Runs e (each_lane f 0 (said_lanes first)) start (record { went = true; held = t }) now) held (at.completes (record { went = true; held = [] }) now run)

    module _ (lt : p < length lanes) where
      split_here : said_lanes (drop p lanes) ≡ said_lane (lane_at lanes p) ∷ said_lanes (drop (p + 1) lanes)
      split_here = ap said_lanes (drop_more lanes p no_lane lt)

      safe_here : Safe parts e (each_lane f p (said_lane (lane_at lanes p) ∷ said_lanes (drop (p + 1) lanes))) now
      safe_here = subst (λ (t : List (List Said)). Safe parts e (each_lane f p t) now) split_here at.safe

      pub between_may : Safe parts e (f p (said_lane (lane_at lanes p))) now
      between_may = safe_first parts e (f p (said_lane (lane_at lanes p))) (rest parts e f p (said_lane (lane_at lanes p)) (said_lanes (drop (p + 1) lanes)) now now []) now safe_here

      module _ (new : List (LaneValue K)) (only : OnlyAt p lanes new) (b : Deeds) where
        behind : drop (p + 1) new ≡ drop (p + 1) lanes
        behind = ap (λ (ls : List (LaneValue K)). drop (p + 1) ls) only ∙ drop-set-lt (p + 1) lanes p (lane_at new p) (omega arith)

        front : take (p + 1) new ≡ take p lanes ++ lane_at new p ∷ []
        front = ap (λ (ls : List (LaneValue K)). take (p + 1) ls) only ∙ take_more_set lanes p (lane_at new p) lt

        before : take p new ≡ take p lanes
        before = ap (λ (ls : List (LaneValue K)). take p ls) only ∙ take-set lanes p (lane_at new p)

        whole : (x : Lanes) (d : Deeds) → Runs e (each_lane f p (said_lane (lane_at lanes p) ∷ said_lanes (drop (p + 1) lanes))) now x d → Runs e (each_lane f 0 (said_lanes first)) start (record { went = x.went; held = said_lanes (take p lanes) ++ x.held }) d
        whole x d r = at.completes x d (subst (λ (t : List (List Said)). Runs e (each_lane f p t) now x d) (sym split_here) r)

        held_front : (held : List (List Said)) → said_lanes (take p lanes) ++ said_lane (lane_at new p) ∷ held ≡ said_lanes (take (p + 1) new) ++ held
        held_front held =
            sym (ap (λ (t : List (List Said)). t ++ held) (ap said_lanes front ∙ map-append said_lane (take p lanes) (lane_at new p ∷ []))
            ∙ append_assoc (said_lanes (take p lanes)) (said_lane (lane_at new p) ∷ []) held)

        pub between_goes_on : Runs e (f p (said_lane (lane_at lanes p))) now (record { went = true; held = said_lane (lane_at new p) }) b → Between (p + 1) new b
        between_goes_on r =
            let s = next_safe parts e f p (said_lane (lane_at lanes p)) (said_lanes (drop (p + 1) lanes)) now b (said_lane (lane_at new p)) safe_here r in
            record {
              len = set_len lanes new p only ∙ at.len;
              safe = subst (λ (ls : List (LaneValue K)). Safe parts e (each_lane f (p + 1) (said_lanes ls)) b) (sym behind) s;
              completes = λ x d t.
                  let u = subst (λ (ls : List (LaneValue K)). Runs e (each_lane f (p + 1) (said_lanes ls)) b x d) behind t in
                  let v = next_runs parts e f p (said_lane (lane_at lanes p)) (said_lanes (drop (p + 1) lanes)) now b (said_lane (lane_at new p)) r x d u in
                  subst (λ (z : List (List Said)). Runs e (each_lane f 0 (said_lanes first)) start (record { went = x.went; held = z }) d) (held_front x.held) (whole (record { went = x.went; held = said_lane (lane_at new p) ∷ x.held }) d v);
            }

        pub between_stops : Runs e (f p (said_lane (lane_at lanes p))) now (record { went = false; held = said_lane (lane_at new p) }) b → Runs e (each_lane f 0 (said_lanes first)) start (record { went = false; held = said_lanes new }) b
        between_stops r =
            let v = stopped_runs parts e f p (said_lane (lane_at lanes p)) (said_lanes (drop (p + 1) lanes)) now b (said_lane (lane_at new p)) r in
            let longer : p < length new = omega (arith, set_len lanes new p only) in
            let all : said_lanes (take p lanes) ++ said_lane (lane_at new p) ∷ said_lanes (drop (p + 1) lanes) ≡ said_lanes new =
            (λ i. said_lanes (sym before i) ++ said_lane (lane_at new p) ∷ said_lanes (sym behind i))
            ∙ sym (map-append said_lane (take p new) (lane_at new p ∷ drop (p + 1) new))
            ∙ ap said_lanes (ap (λ (t : List (LaneValue K)). take p new ++ t) (sym (drop_more new p no_lane longer)) ∙ take-append-drop p new) in
            subst (λ (z : List (List Said)). Runs e (each_lane f 0 (said_lanes first)) start (record { went = false; held = z }) b) all (whole (record { went = false; held = said_lane (lane_at new p) ∷ said_lanes (drop (p + 1) lanes) }) b v)

module _ {K : Type 0} (parts : ℕ) (e : Bool) (f : ℕ → List Said → Prog Lane) (first : List (LaneValue K)) (start : Deeds) where
  pub between_starts : Safe parts e (each_lane f 0 (said_lanes first)) start → Between parts e f first start 0 first start
  between_starts h = record { len = refl; safe = h; completes = λ x d r. r }
