-- What is lacking of a split's winner, from what the calls for it ran.
use Rattle.std.proofs.Common.{◌≡◌, ℕ, ◌<◌, ◌≤◌, ◌⊎◌, inl, inr, Bool, true, false, List, length, refl, sym, ap, ◌∙◌, subst, cond, Option, Some, None, Result, Ok, Err, IfOk, slice_index, slice_set, arith}
use Rattle.std.specs.List.{slice_get}
use Rattle.hop_event.specs.History.{winner, upto}
use Rattle.std.proofs.lemmas.Bool.{lt-ltb}
use Rattle.hop_machine.specs.step.Steps.{Deeds, Ends, Prog, Done, Runs}
use Rattle.hop_machine.specs.step.Setup.{splits_of}
use Rattle.hop_machine.specs.actors.MapperTurns.{Mapper}
use Rattle.hop_machine.specs.actors.ReducerTurns.{Reducer, Writer, reads_winner, reads_upto}
use Rattle.hop_machine.specs.home.Conditions.{HasReducer}
use Rattle.hop_machine.specs.home.Said.{history_of}
use Rattle.hop_machine.specs.play.Play.{Pulling, Went, pull, pull_to, pull_winner, pull_split, after_pull}
use Rattle.hop_machine.specs.settling.Settling.{pulls_left, split_after}
use Rattle.hop_machine.proofs.step.Programs.{Runs-and_then}
use Rattle.hop_machine.proofs.play.Going.{pulls}
use Rattle.hop_machine.proofs.settling.Pulls.{pull-falls}
use Rattle.hop_machine.proofs.step.Owners.{Runs-ends}
use Rattle.hop_machine.specs.declared.words.Turn.TheVariants as said
use Rattle.hop_machine.specs.play.Play.{Place, Halted, unless_spent}
use Rattle.hop_actors.specs.declared.fault.Fault.{Fault}
use Rattle.hop_settle.specs.Stops.{place_after}
use Rattle.hop_actors.specs.Acting.{MayCall, said_fault}
use Rattle.hop_actors.specs.Calls.{found}
use Rattle.hop_machine.specs.run.Catches.{AreHome}
use Rattle.hop_machine.specs.play.Play.{kept_by}
use Rattle.hop_machine.proofs.home.Here.{reducer_kept}
use Rattle.hop_settle.specs.Pulled.{MayPullAt}
use Rattle.hop_settle.proofs.LackLaws.{lacks-winner, lacks-upto, lacks-may}
use Rattle.hop_settle.specs.Crews.{AreWell, world_of}
use Rattle.hop_settle.specs.Lacking.{Lacks}
use Rattle.hop_settle.proofs.DrainLaws.{not_below}

-- the reducer may be called
pub lacks-call : (ms : List Mapper) (r : Reducer) (i p : ℕ) (d : Deeds) → r.number ≡ p → HasReducer p d → Lacks ms r i d → MayCall r d
lacks-call ms r i p d number ends h = record { setup = h.calm.now.set; home = h.calm.now.after.home.home; ends = subst (λ n. HasReducer n d) (sym number) ends }

module _ (e : Bool) (i : ℕ) (r : Reducer) (a mid : Deeds) where
  then_winner : (o : Option ℕ) (b : Deeds) (y : Reducer × Option Bool) → Runs e (reads_winner r i) a o mid → Runs e (pull_winner i o r) mid y b → Runs e (pull_split i r) a y b
  then_winner o b y first later = Runs-and_then e (reads_winner r i) (λ o. pull_winner i o r) a mid b o y first later

  -- the split has no winner
  pub none-won : Runs e (reads_winner r i) a None mid → Runs e (pull_split i r) a (r, Some false) mid
  none-won first = then_winner None mid (r, Some false) first (refl, refl)

  module _ (n from : ℕ) (end : Deeds) (first : Runs e (reads_winner r i) a (Some n) mid) (second : Runs e (reads_upto r i n) mid from end) where
    then_range : (b : Deeds) (y : Reducer × Option Bool) → Runs e (pull_to i n (slice_index r.setup.lens i) from r) end y b → Runs e (pull_split i r) a y b
    then_range b y later = then_winner (Some n) b y first (Runs-and_then e (reads_upto r i n) (λ from. pull_to i n (slice_index r.setup.lens i) from r) mid end b from y second later)

    -- up to its end, as the code reads it
    module _ (to : ℕ) (is : to ≡ slice_index r.setup.lens i) where
      -- all of it is there
      pub none-lacks : (q : Reducer) → q ≡ r → to ≤ from → Runs e (pull_split i r) a (q, Some false) end
      none-lacks q same full = then_range end (q, Some false)
          (subst (λ (t : Bool). Runs e (cond t (pull (record { split = i; attempt = n; from = from; to = slice_index r.setup.lens i }) r) (Done (r, Some false))) end (q, Some false) end)
          (sym (not_below from (slice_index r.setup.lens i) (omega (arith, is, full)))) (λ t. (same t, Some false), refl))

      -- the rest is pulled
      pub rest-pulled : (q : Reducer) (b : Deeds) (y : Reducer × Option Bool) → q ≡ r → from < to → Runs e (pull (record { split = i; attempt = n; from = from; to = to }) q) end y b → Runs e (pull_split i r) a y b
      rest-pulled q b y same less run =
          let made : Runs e (pull (record { split = i; attempt = n; from = from; to = slice_index r.setup.lens i }) r) end y b
          = subst (λ (u : ℕ × Reducer). Runs e (pull (record { split = i; attempt = n; from = from; to = u.0 }) u.1) end y b) (λ t. (is t, same t)) run in
          then_range b y
          (subst (λ (t : Bool). Runs e (cond t (pull (record { split = i; attempt = n; from = from; to = slice_index r.setup.lens i }) r) (Done (r, Some false))) end y b)
          (sym (lt-ltb from (slice_index r.setup.lens i) (omega (arith, is, less)))) made)

-- Before the pull: the reducer is as it was, and may be given what it lacks.
module _ (e : Bool) (ms : List Mapper) (r : Reducer) (i p : ℕ) (number : r.number ≡ p) (a mid : Deeds) (ends : HasReducer p a) (h : Lacks ms r i a) where
  same_setup : (b : Deeds) → Lacks ms r i b → b.setup ≡ a.setup
  same_setup b k = sym k.calm.now.after.home.home.setup ∙ h.calm.now.after.home.home.setup

  module _ (n : ℕ) (first : Runs e (reads_winner r i) a (Some n) mid) where
    read : Lacks ms r i mid × (Some n ≡ winner i (history_of mid r.number))
    read = lacks-winner e ms r i (Some n) a mid h first

    there : HasReducer p mid
    there = reducer_kept p a mid (same_setup mid read.0) (Runs-ends e (reads_winner r i) a mid (Some n) first) ends

    pub may-upto : MayCall r mid
    may-upto = lacks-call ms r i p mid number there read.0

    module _ (from : ℕ) (end : Deeds) (second : Runs e (reads_upto r i n) mid from end) where
      then_read : Lacks ms r i end × (from ≡ upto i n (history_of end r.number)) × (history_of end r.number ≡ history_of mid r.number)
      then_read = lacks-upto e ms r i n from mid end read.0 second

      pub read-homes : AreHome ms end
      read-homes = then_read.0.mappers

      pub read-setup : r.setup ≡ end.setup
      read-setup = then_read.0.calm.now.after.home.home.setup

      pub may-pull : (to : ℕ) → to ≡ slice_index end.setup.lens i → from < to → MayPullAt p (record { split = i; attempt = n; from = from; to = to }) r end
      may-pull to is less =
          let won : winner i (history_of end r.number) ≡ Some n = ap (winner i) then_read.2 ∙ sym read.1 in
          record {
            number = number;
            call = lacks-call ms r i p end number (reducer_kept p mid end (same_setup end then_read.0 ∙ sym (same_setup mid read.0)) (Runs-ends e (reads_upto r i n) mid end from second) there) then_read.0;
            pull = (lacks-may ms r end (record { split = i; attempt = n; from = from; to = to }) then_read.0 won then_read.1 is less).0;
          }

      pub is-kept-to : (to : ℕ) → to ≡ slice_index end.setup.lens i → to ≡ kept_by ms i n
      is-kept-to to is = is ∙ sym (then_read.0.whole n (ap (winner i) then_read.2 ∙ sym read.1))

-- A pull of a list's reducer is the step that is due.
module _ (e : Bool) (p i : ℕ) (rs : List Reducer) (a : Deeds) (r : Reducer) (y : Reducer × Option Bool) (b : Deeds) (here : slice_get rs p ≡ Some r) (run : Runs e (pull_split i r) a y b) where
  pub split-ends : b.ends ≡ a.ends
  split-ends = Runs-ends e (pull_split i r) a b y run

  pub split-went : p < length rs → i < splits_of a.setup → (ms : List Mapper) (x : Writer) → Went e (Pulling p i, world_of ms rs x a) (after_pull p i y.1, world_of ms (slice_set rs p y.0) x b)
  split-went l m ms x = pulls e p i (world_of ms rs x a) r b y here l m run

  -- and leaves less to pull
  pub split-falls : r.number ≡ p → r.setup ≡ a.setup → b.setup ≡ a.setup → i < splits_of a.setup → (t : Bool) → y.1 ≡ Some t → pulls_left p (split_after i t) b < pulls_left p i a
  split-falls number set same l t is = of (pull-falls e p i r a b y number set same l run)
    where
      some_is : (u v : Bool) → ◌≡◌ {A = Option Bool} (Some u) (Some v) → u ≡ v
      some_is u v k = cc

      of : (y.1 ≡ None) ⊎ ((restarted : Bool) × (y.1 ≡ Some restarted) × (pulls_left p (split_after i restarted) b < pulls_left p i a)) → pulls_left p (split_after i t) b < pulls_left p i a
      of (inl n) = let k : None ≡ Some t = sym n ∙ is in cc
      of (inr z) = subst (λ (u : Bool). pulls_left p (split_after i u) b < pulls_left p i a) (some_is z.0 t (sym z.1 ∙ is)) z.2

-- nothing was done but to read
pub board_kept : {A M : Type 0} (e : Bool) (k : Prog A) (a b : Deeds) (y : A) → Runs e k a y b → (failed : M → Bool) (fits : M → List ℕ → Type 0) (ms : List M) → AreWell failed fits a.ends.board ms → AreWell failed fits b.ends.board ms
board_kept e k a b y run failed fits ms h = subst (λ (o : Ends). AreWell failed fits o.board ms) (sym (Runs-ends e k a b y run)) h

pub when_found : {E : Type 0} (r : Result Bool E) (P : Bool → Type 0) → ((t : Bool) → found r ≡ Some t → P t) → IfOk r P
when_found (Ok t) P h = h t refl
when_found (Err f) P h = tt

-- where the run goes on after a pull
pub after_is : (p i : ℕ) (t : Bool) → after_pull p i (Some t) ≡ Pulling p (split_after i t)
after_is p i true = refl
after_is p i false = refl

pub within_after : (i n : ℕ) (t : Bool) → i < n → split_after i t ≤ n
within_after i n true l = omega arith
within_after i n false l = omega (arith, l)

-- a fault that stops ends the run where it halts
pub stopped_place : (f : Fault) (go : Place) → said_fault f ≡ said.Stopped → place_after {A = Unit {0}} (Err f) go ≡ Halted
stopped_place f go is = ap (λ t. unless_spent t go) is
