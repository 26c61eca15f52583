-- What an end says can be so: the board of the example, and its end.
use Rattle.std.proofs.Common.{◌≡◌, ℕ, zero, suc, ◌+◌, ◌<◌, Bool, true, false, ◌==◌, cond, [], ◌∷◌, refl, Some, ◌⊎◌, inl, inr, arith, not-suc-le-zero}
use Rattle.std.proofs.lemmas.Bool.{eqb-true}
use Rattle.hop_event.specs.declared.event.Via.TheVariants.{Lane}
use Rattle.hop_event.specs.declared.event.Event.TheVariants.{Arrive, Won}
use Rattle.hop_machine.specs.step.Steps.{Among, Drew, has_bit}
use Rattle.hop_machine.specs.home.Said.{seat_of, BeganBy, SaidOfReducer}
use Rattle.hop_machine.specs.board.Board.{BoardRule, Gathered}
use Rattle.hop_machine.specs.ending.Finishing.{HaveEnded, AreSettled, IsClosed}
use Rattle.hop_machine.proofs.ending.Winners.{true_or_false}
use Rattle.hop_machine.proofs.board.Starts.{no_bit}
use Rattle.hop_machine.proofs.ending.Settled.{run-settled}
use Rattle.hop_machine.specs.home.Said.{held_for}
use Rattle.hop_machine.specs.board.Board.{MayHaveWon}
use Rattle.std.specs.Prelude.{slice_index}
use Rattle.hop_machine.specs.ending.Finishing.{greatest}
use Rattle.hop_event.specs.Agreement.{history_at}
use Rattle.hop_event.specs.History.{upto}
use Rattle.hop_event.specs.Legal.{NoFinish}
use Rattle.hop_machine.proofs.ending.Example.{rules, part, history, seat, words, d, mapper, is_zero, both_zero, drew_zero, began_zero, zero_same, home, first_or, won_so, reducer}

-- # The board

one_of : (t : Bool) (a : ℕ) → a < cond t 1 0 → (t ≡ true) × (a ≡ 0)
one_of true a h = (refl, omega (arith, h))
one_of false a h = absurd (not-suc-le-zero h)

drawn_so : (i a : ℕ) → a < words.drawn i → (i ≡ 0) × (a ≡ 0)
drawn_so i a h = let t = one_of (i == 0) a h in (eqb-true i 0 t.0, t.1)

winner_so : (i a : ℕ) → words.winner i ≡ Some a → (i ≡ 0) × (a ≡ 0)
winner_so i a e = let t = first_or (i == 0) a e in (eqb-true i 0 t.0, t.1)

only_worker : (w v : ℕ) → w < 1 → v < 1 → w ≡ v
only_worker w v h k = omega (arith, h, k)

given_zero : (i : ℕ) → Among i (0 ∷ []) → i ≡ 0
given_zero i (inl e) = e
given_zero i (inr h) = absurd h

rule : BoardRule rules words (seat_of d)
rule = record {
  splits = record {
    given = λ w i h g. let e = given_zero i g in (omega (arith, e), omega (arith, e));
    givers = λ i h k. (0, omega arith, inl (let e : i ≡ 0 = omega (arith, h) in e));
    giver = λ i w v h k g f. only_worker w v h k;
    once = λ w h. (λ g. g, tt);
    past = λ w h e. omega arith;
  };
  numbers = record {
    drew = λ w i a h g. let e = drew_zero i a g in let z = e.0 in (omega (arith, z), both_zero (λ i a. a < words.drawn i) (omega arith) i a e);
    drawers = λ i a h. (0, omega arith, both_zero (λ i a. Drew seat i a) (inl refl) i a (drawn_so i a h));
    drawer = λ i a w v h k g f. only_worker w v h k;
    once = λ w h. (λ g. g, tt);
  };
  verdicts = record {
    won = λ i a e. both_zero (λ i a. MayHaveWon rules words i a) (record { drew = omega arith; below = omega arith; succeeds = refl; alive = no_bit 0 }) i a (winner_so i a e);
    gone = λ i a e. absurd (true_or_false (has_bit 0 a) e (no_bit a));
    spent = λ i all. absurd (true_or_false (has_bit 0 0) (all 0 (omega arith)) (no_bit 0));
  };
}

gathered : Gathered rules d
gathered = record { words = words; rule = rule; knows = λ who. record { won = λ i a e. both_zero (λ i a. words.winner i ≡ Some a) refl i a (zero_same i a e); gone = λ i a e. cc } }

-- # The end

abbrev StandsFor : ℕ → ℕ → Type 0
StandsFor i k = (k ≡ 0) ⊎ ((a : ℕ) × (k ≡ a + 1) × BeganBy rules d 0 i a)

ended : HaveEnded rules d (λ w. mapper)
ended = record {
  workers = omega arith;
  number = is_zero (λ w. 0 ≡ w) refl;
  same = λ w h. refl;
  lanes = λ w h. refl;
  home = λ w h. home;
  ended = λ w h. record { dry = refl; work = refl; held = none_held };
  counts = λ w h. record { above = λ i a b. let e = drew_zero i a b.drawn in both_zero (λ i a. a < mapper.begun i) (omega arith) i a e; least = λ i. some_begun i (i == 0) (eqb-true i 0) };
  reducers = is_zero (λ p. SaidOfReducer rules d p) reducer;
  pulls = λ p h. (tt, tt);
  emptied = λ w p h k. refl;
  gathered = gathered;
}
  where
    none_held : (p : ℕ) → held_for mapper p ≡ []
    none_held zero = refl
    none_held (suc p) = refl

    some_begun : (i : ℕ) (t : Bool) → (t ≡ true → i ≡ 0) → StandsFor i (cond t 1 0)
    some_begun i true f = inr (0, refl, began_zero i 0 (f refl, refl))
    some_begun i false f = inl refl

-- the history of this run is settled
pub example-settled : AreSettled rules (1 ∷ []) (history ∷ [])
example-settled = run-settled rules d (λ w. mapper) ended (1 ∷ []) (record { count = refl; each = is_zero (λ i. slice_index (1 ∷ []) i ≡ greatest 1 (λ w. mapper.begun i)) refl }) (history ∷ [])
    (record { count = refl; each = is_zero (λ p. history_at (history ∷ []) p ≡ history) refl })
    (is_zero (λ p. IsClosed rules (history_at (history ∷ []) p)) (record { earlier = Won 0 0 ∷ Arrive part (Lane 0) ∷ []; ends = refl; once = no_finish; pulled = λ i a h e. let t = won_so i a e in both_zero (λ i a. upto i a (Won 0 0 ∷ Arrive part (Lane 0) ∷ []) ≡ slice_index (1 ∷ []) i) refl i a t }))
  where
    no_finish : NoFinish (Won 0 0 ∷ Arrive part (Lane 0) ∷ [])
    no_finish zero e h = refl
    no_finish (suc zero) e h = refl
    no_finish (suc (suc n)) e h = absurd (omega (arith, h))
