-- A world of one thread as it is made: nothing was done there, and it has all ends.
use Rattle.std.proofs.Common.{◌≡◌, ℕ, ◌+◌, ◌*◌, ◌<◌, ◌≤◌, ◌==◌, ◌&&◌, arith, Bool, true, false, nat_lt, cond, List, [], ◌∷◌, ◌++◌, length, map, All, Option, Some, None, refl, sym, ap, ◌∙◌, subst, get_or}
use Rattle.std.specs.List.{slice_get, range_with_len}
use Rattle.std.specs.Option.{option_map}
use Rattle.std.proofs.lemmas.Bool.{lt-ltb, ltb-true, ltb-false, eq-eqb}
use Rattle.std.proofs.lemmas.Nat.{div-mul-add, mod-mul-add, mul-add-lt}
use Rattle.std.proofs.lemmas.Option.{slice_get-get_or, slice_get_past, slice_get-map}
use Rattle.std.proofs.lemmas.List.FromFn.{get_or-range_with_len, length-range_with_len}
use Rattle.std.proofs.lemmas.Nat.Bits.{bit_at-zero}
use Rattle.std.proofs.Math.Nat.{mul_comm}
use Rattle.hop_machine.specs.declared.words.Who.{Who}
use Rattle.hop_machine.specs.step.Steps.{Setup, Deeds, has_bit, Kept}
use Rattle.hop_machine.specs.board.Board.{no_words}
use Rattle.hop_machine.specs.home.Starts.{unused_seat}
use Rattle.hop_machine.specs.home.Conditions.{HasAll}
use Rattle.hop_machine.specs.play.FirstState.{nothing_under_lock, new_shared}
use Rattle.hop_machine.specs.run.AllHome.{new_deeds}
use Rattle.hop_cut.specs.declared.cut.Cut.{Cut}
use Rattle.hop_lane.specs.PlainLanes.{Lane}
use Rattle.hop_inner.specs.Lines.{Key}
use Rattle.hop_inner.specs.Locks.{Lock}
use Rattle.hop_inner.specs.Messages.{said, said_cut}
use Rattle.hop_board.specs.PlainBoards.{BoardValue, no_sent, no_taken, words_of, verdicts_of, seats_of}
use Rattle.hop_crew.specs.PlainWorlds.{Mail, grid_get, sent_at, taken_at, kept_at, is_lane, is_cut, is_keep, same_numbers, deeds_with}
use Rattle.hop_crew.specs.Unused.{IsUnusedLane, AreUnusedLanes, AreUnusedCutLanes, first_kept, first_value}

-- # Lanes

module _ {T M : Type 0} (f : T → M) where
  pub unsent : (key : Key) (o : Option (Lane T)) → IsUnusedLane key o → sent_at f o ≡ no_sent
  unsent key o h = ap (sent_at f) h.here ∙ (λ i. record { sent = map f (h.taken i ++ h.held i); fulls = h.fulls i })

  pub untaken : (key : Key) (o : Option (Lane T)) → IsUnusedLane key o → taken_at f o ≡ no_taken
  untaken key o h = ap (taken_at f) h.here ∙ (λ i. record { taken = map f (h.taken i); nones = h.nones i })

same_as_itself : (xs : List ℕ) → same_numbers xs xs ≡ true
same_as_itself [] = refl
same_as_itself (x ∷ xs) = λ i. eq-eqb x x refl i && same_as_itself xs i

pub is_there : {T : Type 0} (board : List ℕ) (w p : ℕ) (o : Option (Lane T)) → IsUnusedLane (record { mapper = w; reducer = p; board = board }) o → is_lane board w p o ≡ true
is_there board w p o h =
    ap (is_lane board w p) h.here
    ∙ (λ i. ((h.key_is i).mapper == w) && ((h.key_is i).reducer == p) && same_numbers (h.key_is i).board board)
    ∙ (λ i. (eq-eqb w w refl i && eq-eqb p p refl i) && same_as_itself board i)

pub is_cut_there : (board : List ℕ) (p : ℕ) (o : Option (Lane Cut)) → IsUnusedLane (record { mapper = 0; reducer = p; board = board }) o → is_cut p o ≡ true
is_cut_there board p o h = ap (is_cut p) h.here ∙ (λ i. (h.key_is i).reducer == p) ∙ eq-eqb p p refl

-- # Locks

module _ (setup : Setup) (keeps : List Lock) (numbers : map (λ (k : Lock). k.number) keeps ≡ range_with_len 0 (length keeps)) (kept : All (λ (k : Lock). k.kept ≡ first_kept setup) keeps) where
  abbrev pub lock_at : (p : ℕ) → p < length keeps → Lock
  lock_at p l = get_or keeps p (record { kept = first_kept setup; number = 0 })

  pub lock_is : (p : ℕ) (l : p < length keeps) → slice_get keeps p ≡ Some (lock_at p l)
  lock_is p l = slice_get-get_or keeps p (record { kept = first_kept setup; number = 0 }) l

  pub its_kept : (p : ℕ) (l : p < length keeps) → (lock_at p l).kept ≡ first_kept setup
  its_kept p l = kept p (record { kept = first_kept setup; number = 0 }) l

  some_number : (x y : ℕ) → Some x ≡ Some y → x ≡ y
  some_number x y e = cc

  pub its_number : (p : ℕ) (l : p < length keeps) → (lock_at p l).number ≡ p
  its_number p l =
      some_number (lock_at p l).number p
      (ap (option_map (λ (k : Lock). k.number)) (sym (lock_is p l)) ∙ sym (slice_get-map (λ (k : Lock). k.number) keeps p) ∙ (λ i. slice_get (numbers i) p)
      ∙ slice_get-get_or (range_with_len 0 (length keeps)) p 0 (subst (λ n. p < n) (sym (length-range_with_len 0 (length keeps))) l)
      ∙ ap Some (get_or-range_with_len 0 (length keeps) p 0 l ∙ (omega arith)))

-- # The board

no_bit : (a : ℕ) → has_bit 0 a ≡ false
no_bit a = ap (λ k. k == 1) (bit_at-zero a)

-- # All of it

module _ (setup : Setup) (board : BoardValue) (lanes : List (Lane Mail)) (cuts : List (Lane Cut)) (keeps : List Lock)
    (seats : (who : Who) → seats_of board.calls who ≡ unused_seat) (words : words_of board.calls ≡ no_words)
    (grid : length lanes ≡ setup.workers * setup.reducers) (lanes_are : AreUnusedLanes board.name setup.reducers lanes)
    (line : length cuts ≡ setup.reducers) (cuts_are : AreUnusedCutLanes board.name cuts)
    (locks : length keeps ≡ setup.reducers) (numbers : map (λ (k : Lock). k.number) keeps ≡ range_with_len 0 (length keeps)) (kept : All (λ (k : Lock). k.kept ≡ first_kept setup) keeps) where
  abbrev pub L : ℕ → ℕ → Option (Lane Mail)
  L w p = grid_get lanes setup.workers setup.reducers w p

  lane_at : (w p : ℕ) → w < setup.workers → p < setup.reducers → IsUnusedLane (record { mapper = w; reducer = p; board = board.name }) (slice_get lanes (w * setup.reducers + p))
  lane_at w p lw lp =
      let R = setup.reducers in
      subst (λ (k : ℕ × ℕ). IsUnusedLane (record { mapper = k.0; reducer = k.1; board = board.name }) (slice_get lanes (w * R + p)))
      (λ i. (div-mul-add w R p lp i, mod-mul-add w R p lp i))
      (lanes_are (w * R + p) (subst (λ n. w * R + p < n) (sym grid) (subst (λ n. w * R + p < n) (mul_comm R setup.workers) (mul-add-lt w R p setup.workers lw lp))))

  here : (w p : ℕ) → w < setup.workers → p < setup.reducers → L w p ≡ slice_get lanes (w * setup.reducers + p)
  here w p lw lp = λ i. cond (lt-ltb w setup.workers lw i && lt-ltb p setup.reducers lp i) (slice_get lanes (w * setup.reducers + p)) None

  pub in_grid : (w p : ℕ) → w < setup.workers → p < setup.reducers → IsUnusedLane (record { mapper = w; reducer = p; board = board.name }) (L w p)
  in_grid w p lw lp = subst (IsUnusedLane (record { mapper = w; reducer = p; board = board.name })) (sym (here w p lw lp)) (lane_at w p lw lp)

  -- where there is no lane, nothing is shown
  by_place : {A : Type 0} (f : Option (Lane Mail) → A) (x : A) → f None ≡ x → ((w p : ℕ) → w < setup.workers → p < setup.reducers → f (L w p) ≡ x) → (w p : ℕ) → f (L w p) ≡ x
  by_place f x none some w p = by (nat_lt w setup.workers) refl (nat_lt p setup.reducers) refl where
    by : (a : Bool) → nat_lt w setup.workers ≡ a → (b : Bool) → nat_lt p setup.reducers ≡ b → f (L w p) ≡ x
    by true ea true eb = some w p (ltb-true w setup.workers ea) (ltb-true p setup.reducers eb)
    by true ea false eb = (λ i. f (cond (ea i && eb i) (slice_get lanes (w * setup.reducers + p)) None)) ∙ none
    by false ea b eb = (λ i. f (cond (ea i && nat_lt p setup.reducers) (slice_get lanes (w * setup.reducers + p)) None)) ∙ none

  outs : (w p : ℕ) → sent_at said (L w p) ≡ no_sent
  outs = by_place (sent_at said) no_sent refl (λ w p lw lp. unsent said _ (L w p) (in_grid w p lw lp))

  ins : (w p : ℕ) → taken_at said (L w p) ≡ no_taken
  ins = by_place (taken_at said) no_taken refl (λ w p lw lp. untaken said _ (L w p) (in_grid w p lw lp))

  cut_in : (p : ℕ) → p < setup.reducers → IsUnusedLane (record { mapper = 0; reducer = p; board = board.name }) (slice_get cuts p)
  cut_in p l = cuts_are p (subst (λ n. p < n) (sym line) l)

  by_cut : {A : Type 0} (f : Option (Lane Cut) → A) (x : A) → f None ≡ x → ((p : ℕ) → p < setup.reducers → f (slice_get cuts p) ≡ x) → (p : ℕ) → f (slice_get cuts p) ≡ x
  by_cut f x none some p = by (nat_lt p setup.reducers) refl where
    by : (a : Bool) → nat_lt p setup.reducers ≡ a → f (slice_get cuts p) ≡ x
    by true e = some p (ltb-true p setup.reducers e)
    by false e = ap f (slice_get_past cuts p (subst (λ n. n ≤ p) (sym line) (ltb-false p setup.reducers e))) ∙ none

  cut_outs : (p : ℕ) → sent_at said_cut (slice_get cuts p) ≡ no_sent
  cut_outs = by_cut (sent_at said_cut) no_sent refl (λ p l. unsent said_cut _ (slice_get cuts p) (cut_in p l))

  cut_ins : (p : ℕ) → taken_at said_cut (slice_get cuts p) ≡ no_taken
  cut_ins = by_cut (taken_at said_cut) no_taken refl (λ p l. untaken said_cut _ (slice_get cuts p) (cut_in p l))

  lock_there : (p : ℕ) → p < setup.reducers → p < length keeps
  lock_there p l = subst (λ n. p < n) (sym locks) l

  -- what the recorder's end of lock p shows of a run of which nothing was done
  abbrev pub new_kept : ℕ → Kept
  new_kept p = record { events = ((new_shared setup).histories p).events; due = ((new_shared setup).histories p).due; held = false; busy = 0 }

  keeps_are : (p : ℕ) → kept_at (slice_get keeps p) ≡ new_kept p
  keeps_are p = by (nat_lt p setup.reducers) refl where
    by : (a : Bool) → nat_lt p setup.reducers ≡ a → kept_at (slice_get keeps p) ≡ new_kept p
    by true e =
        let l = lock_there p (ltb-true p setup.reducers e) in
        ap kept_at (lock_is setup keeps numbers kept p l) ∙ its_kept setup keeps numbers kept p l
        ∙ (λ i. record { events = (cond (sym e i) (first_value setup) nothing_under_lock).events; due = (cond (sym e i) (first_value setup) nothing_under_lock).due; held = false; busy = 0 })
    by false e =
        ap kept_at (slice_get_past keeps p (subst (λ n. n ≤ p) (sym locks) (ltb-false p setup.reducers e)))
        ∙ (λ i. record { events = (cond (sym e i) (first_value setup) nothing_under_lock).events; due = (cond (sym e i) (first_value setup) nothing_under_lock).due; held = false; busy = 0 })

  abbrev pub world : Deeds
  world = deeds_with setup false board L (slice_get cuts) (slice_get keeps)

  pub is_new : world ≡ new_deeds setup world.ends
  is_new = λ i. record world {
    did = record {
      outs = λ w p. outs w p i;
      ins = λ w p. ins w p i;
      cut_outs = λ p. cut_outs p i;
      cut_ins = λ p. cut_ins p i;
      seats = λ who. seats who i;
      keeps = λ p. keeps_are p i;
    };
    told = record {
      taken = λ w p. (ins w p i).taken;
      sent = λ w p. (outs w p i).sent;
      cut_taken = λ p. (cut_ins p i).taken;
      cut_sent = λ p. (cut_outs p i).sent;
      knows = λ who. (ap verdicts_of words ∙ (λ j. record { won = λ k a. false; gone = λ k a. no_bit a j })) i;
    };
    words = words i;
  }

  lock_of : (p : ℕ) → p < setup.reducers → is_keep p (slice_get keeps p) ≡ true
  lock_of p l =
      let h = lock_there p l in
      ap (is_keep p) (lock_is setup keeps numbers kept p h) ∙ (λ i. its_number setup keeps numbers kept p h i == p) ∙ eq-eqb p p refl

  pub has_all : HasAll world
  has_all = record {
    mapper = λ w lw. record { outs = λ p lp. is_there board.name w p (L w p) (in_grid w p lw lp); board = lt-ltb w setup.workers lw };
    reducer = λ p lp. record {
      ins = λ w lw. is_there board.name w p (L w p) (in_grid w p lw lp);
      cut_out = is_cut_there board.name p (slice_get cuts p) (cut_in p lp);
      board = refl;
      keep = lock_of p lp;
    };
    writer = record { cut_ins = λ p lp. is_cut_there board.name p (slice_get cuts p) (cut_in p lp); board = refl };
  }

-- the conditions, by the numbers of mappers and reducers that the world keeps
pub record AreNew (setup : Setup) (board : BoardValue) (lanes : List (Lane Mail)) (cuts : List (Lane Cut)) (keeps : List Lock) (W R : ℕ) : Type 0 where
  pub grid : length lanes ≡ W * R
  pub lanes_are : AreUnusedLanes board.name R lanes
  pub line : length cuts ≡ R
  pub cuts_are : AreUnusedCutLanes board.name cuts
  pub locks : length keeps ≡ R
  pub numbers : map (λ (k : Lock). k.number) keeps ≡ range_with_len 0 (length keeps)
  pub kept : All (λ (k : Lock). k.kept ≡ first_kept setup) keeps

-- a world that shows this is new, and has all ends
abbrev pub IsNewWorld : Setup → Deeds → Type 0
IsNewWorld setup d = (d ≡ new_deeds setup d.ends) × HasAll d

pub new_world : (setup : Setup) (board : BoardValue) (lanes : List (Lane Mail)) (cuts : List (Lane Cut)) (keeps : List Lock)
    → ((who : Who) → seats_of board.calls who ≡ unused_seat) → words_of board.calls ≡ no_words
    → (W R : ℕ) → W ≡ setup.workers → R ≡ setup.reducers → AreNew setup board lanes cuts keeps W R
    → IsNewWorld setup (deeds_with setup false board (λ w p. grid_get lanes W R w p) (slice_get cuts) (slice_get keeps))
new_world setup board lanes cuts keeps seats words W R e f h =
    let k = subst (λ R. AreNew setup board lanes cuts keeps setup.workers R) f (subst (λ W. AreNew setup board lanes cuts keeps W R) e h) in
    let x = is_new setup board lanes cuts keeps seats words k.grid k.lanes_are k.line k.cuts_are k.locks k.numbers k.kept in
    let y = has_all setup board lanes cuts keeps seats words k.grid k.lanes_are k.line k.cuts_are k.locks k.numbers k.kept in
    subst (λ W. IsNewWorld setup (deeds_with setup false board (λ w p. grid_get lanes W R w p) (slice_get cuts) (slice_get keeps))) (sym e)
    (subst (λ R. IsNewWorld setup (deeds_with setup false board (λ w p. grid_get lanes setup.workers R w p) (slice_get cuts) (slice_get keeps))) (sym f) (x, y))
