-- What the words of a board that keeps its rule tell.
use Rattle.std.proofs.Common.{◌≡◌, ℕ, ◌<◌, ◌==◌, ◌⊎◌, Bool, true, false, List, ◌++◌, ◌∷◌, [], Option, Some, None, refl, sym, ap, ◌∙◌, subst, inl, inr, ⊎_elim, arith, max, bit_or, ◌^◌}
use Rattle.std.specs.Int.{bit_at}
use Rattle.std.proofs.lemmas.Bool.{eqb-true, eq-eqb}
use Rattle.std.proofs.lemmas.Nat.Bits.{bit_at_or, bit_at-lt, bit_at-pow_same}
use Rattle.hop_base.specs.Run.{fails_at}
use Rattle.hop_machine.specs.step.Setup.{splits_of}
use Rattle.hop_machine.specs.step.Steps.{Setup, rules_of, Seat, Words, Verdicts, Knows, IsKnown, TellsWinner, TellsFailed, with_winner, with_bit, has_bit}
use Rattle.hop_machine.specs.board.Board.{BoardRule, StandsIn}
use Rattle.hop_board.specs.declared.plain_board.Call.{Call}
use Rattle.hop_board.specs.declared.plain_board.Call.TheVariants.{Gave, Drew as Drew', Committed, Revoked}
use Rattle.hop_board.specs.declared.plain_board.Made.{Made}
use Rattle.hop_board.specs.PlainBoards.{words_of, words_after, verdicts_of, is_winner}
use Rattle.hop_board.proofs.Places.{at_place}

pub winner_is : (o : Option ℕ) (a : ℕ) → is_winner o a ≡ true → o ≡ Some a
winner_is None a h = cc
winner_is (Some b) a h = ap Some (eqb-true b a h)

pub stands : (x : Words) → StandsIn x (verdicts_of x)
stands x = record { won = λ i a e. winner_is (x.winner i) a e; gone = λ i a e. e }

some_same : (a b : ℕ) → Some a ≡ Some b → a ≡ b
some_same a b e = cc

module _ (setup : Setup) (x : Words) (seats : ℕ → Seat) (r : BoardRule (rules_of setup) x seats) where
  pub known : IsKnown setup (verdicts_of x)
  known = record {
    won = λ i a e. let m = r.verdicts.won i a (winner_is (x.winner i) a e) in let d = r.numbers.drawers i a m.drew in ((r.numbers.drew d.0 i a d.1 d.2).0, m.below, m.succeeds);
    one = λ i a b e f. some_same a b (sym (winner_is (x.winner i) a e) ∙ winner_is (x.winner i) b f);
    gone = λ i a e. let m = r.verdicts.gone i a e in ((r.numbers.drew m.owner.0 i a m.owner.1 m.owner.2.0).0, m.below);
    alive = λ i a e f. let m = r.verdicts.won i a (winner_is (x.winner i) a e) in let z : true ≡ false = sym f ∙ m.alive in cc;
  }

  none_known : (i a : ℕ) (o : Option ℕ) → o ≡ None → is_winner o a ≡ true → ⊥
  none_known i a None e h = cc
  none_known i a (Some b) e h = cc

  tells_winner : (i : ℕ) (o : Option ℕ) → o ≡ x.winner i → TellsWinner i o (verdicts_of x) (verdicts_of x)
  tells_winner i None is = λ a h. none_known i a (x.winner i) (sym is) h
  tells_winner i (Some b) is = (ap (λ k. is_winner k b) (sym is) ∙ eq-eqb b b refl, λ a h. some_same a b (sym (winner_is (x.winner i) a h) ∙ sym is))

  no_winner : (i : ℕ) (b : ℕ) → x.winner i ≡ None → x.winner i ≡ Some b → ⊥
  no_winner i b e f = let z : None ≡ Some b = sym e ∙ f in cc

  tells_failed : (i : ℕ) (o : Option ℕ) → o ≡ x.winner i → TellsFailed setup i o (verdicts_of x)
  tells_failed i None is = λ a g ok. ⊎_elim (λ line. line ok) (λ lost. no_winner i lost.0 (sym is) lost.1) (r.verdicts.gone i a g).cause
  tells_failed i (Some b) is = tt

  pub tells_asked : (i : ℕ) (o : Option ℕ) → o ≡ x.winner i → TellsWinner i o (verdicts_of x) (verdicts_of x) × IsKnown setup (verdicts_of x) × TellsFailed setup i o (verdicts_of x)
  tells_asked i o is = (tells_winner i o is, known, tells_failed i o is)

-- # Bits

max_one : (a b : ℕ) → a < 2 → b ≡ 1 → max a b ≡ 1
max_one a b l e = omega arith

one_max : (a b : ℕ) → a ≡ 1 → b < 2 → max a b ≡ 1
one_max a b e l = omega arith

has_bit-is : (mask a : ℕ) → bit_at mask a ≡ 1 → has_bit mask a ≡ true
has_bit-is mask a e = eq-eqb (bit_at mask a) 1 e

pub bit_set : (mask a : ℕ) → has_bit (with_bit mask a) a ≡ true
bit_set mask a = has_bit-is (with_bit mask a) a (bit_at_or mask (2 ^ a) a ∙ max_one (bit_at mask a) (bit_at (2 ^ a) a) (bit_at-lt mask a) (bit_at-pow_same a))

bit_kept : (mask a n : ℕ) → has_bit mask n ≡ true → has_bit (with_bit mask a) n ≡ true
bit_kept mask a n h = has_bit-is (with_bit mask a) n (bit_at_or mask (2 ^ a) n ∙ one_max (bit_at mask n) (bit_at (2 ^ a) n) (eqb-true (bit_at mask n) 1 h) (bit_at-lt (2 ^ a) n))

-- # What is known only grows

won_kept : (w : Option ℕ) (a n : ℕ) → is_winner w n ≡ true → is_winner (with_winner w a) n ≡ true
won_kept None a n h = cc
won_kept (Some b) a n h = h

pub knows_more : (k : Call) (x : Words) → Knows (verdicts_of x) (verdicts_of (words_after k x))
knows_more (Gave o) x = record { won = λ i n e. e; gone = λ i n e. e }
knows_more (Drew' j m) x = record { won = λ i n e. e; gone = λ i n e. e }
knows_more (Committed j a v) x = record {
  won = λ i n e. at_place (λ (w : Option ℕ). is_winner w n ≡ true) x.winner j i (with_winner (x.winner j) a) (λ (s : i ≡ j). won_kept (x.winner j) a n (ap (λ k. is_winner (x.winner k) n) (sym s) ∙ e)) e;
  gone = λ i n e. e;
}
knows_more (Revoked j a m) x = record {
  won = λ i n e. e;
  gone = λ i n e. at_place (λ (k : ℕ). has_bit k n ≡ true) x.mask j i (with_bit (x.mask j) a) (λ (s : i ≡ j). bit_kept (x.mask j) a n (ap (λ k. has_bit (x.mask k) n) (sym s) ∙ e)) e;
}

pub knows_later : (newer older : List Made) → Knows (verdicts_of (words_of older)) (verdicts_of (words_of (newer ++ older)))
knows_later [] older = record { won = λ i n e. e; gone = λ i n e. e }
knows_later (m ∷ newer) older = let h = knows_later newer older in let k = knows_more m.call (words_of (newer ++ older)) in record { won = λ i n e. k.won i n (h.won i n e); gone = λ i n e. k.gone i n (h.gone i n e) }
