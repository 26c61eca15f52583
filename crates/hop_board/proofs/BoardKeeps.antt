-- What each call leaves of a board of one thread.
use Rattle.std.proofs.Common.{◌≡◌, ℕ, ◌+◌, ◌<◌, ◌≤◌, Bool, true, false, nat_lt, cond, List, ◌∷◌, length, slice_set, Option, Some, None, refl, sym, ap, ◌∙◌, subst, arith}
use Rattle.std.specs.List.{slice_get}
use Rattle.std.proofs.lemmas.Bool.{ltb-true}
use Rattle.std.proofs.lemmas.List.{length-set}
use Rattle.hop_machine.specs.declared.words.Who.TheVariants as whose
use Rattle.hop_machine.specs.declared.words.Verdict.{Verdict}
use Rattle.hop_machine.specs.step.Setup.{splits_of}
use Rattle.hop_machine.specs.step.Steps.{Setup, Words, NextSplit, Draw, Commit, Revoke, at1, next_of, verdict_of, with_winner, with_bit}
use Rattle.hop_machine.specs.home.Conditions.{Asks}
use Rattle.hop_inner.specs.Setups.{parts}
use Rattle.hop_board.specs.declared.plain_board.Call.{Call}
use Rattle.hop_board.specs.declared.plain_board.Call.TheVariants.{Gave, Drew as Drew', Committed, Revoked}
use Rattle.hop_board.specs.declared.plain_board.Made.{Made}
use Rattle.hop_board.specs.PlainBoards.{words_of, board_deeds, given_count, IsBoard}
use Rattle.hop_board.proofs.Places.{put}
use Rattle.hop_board.proofs.Counts.{counts_next, counts_draw, counts_same}
use Rattle.hop_board.proofs.BoardSteps.{rule_kept, next_is, draw_is, commit_is, revoke_is}

module _ (setup : Setup) (name : List ℕ) (cursor : ℕ) (drawn : List ℕ) (winners : List (Option ℕ)) (masks : List ℕ) (calls : List Made) (h : IsBoard setup cursor drawn winners masks calls)
    (w : ℕ) (inside : w < setup.workers) where
  abbrev x : Words
  x = words_of calls

  abbrev more : Call → List Made
  more k = record { who = whose.Mapper w; call = k } ∷ calls

  abbrev a0 : Rattle.hop_machine.specs.step.Steps.Deeds
  a0 = board_deeds setup (record { name = name; who = whose.Mapper w; calls = calls })

  within_by : (t : Bool) → nat_lt cursor (splits_of setup) ≡ t → cursor + given_count (cond t (Some cursor) None) ≤ splits_of setup
  within_by true l = let k = ltb-true cursor (splits_of setup) l in omega arith
  within_by false l = let k = h.within in omega arith

  pub keeps_next : (o : Option ℕ) → o ≡ next_of (splits_of setup) cursor → Asks parts (NextSplit w) a0 → IsBoard setup (cursor + given_count o) drawn winners masks (more (Gave o))
  keeps_next o is asks = let found : o ≡ next_of (splits_of setup) x.cursor = is ∙ ap (next_of (splits_of setup)) (sym h.cursor_is) in record {
    cursor_is = ap (λ k. k + given_count o) h.cursor_is;
    within = subst (λ o. cursor + given_count o ≤ splits_of setup) (sym is) (within_by (nat_lt cursor (splits_of setup)) refl);
    drawn_are = h.drawn_are;
    winners_are = h.winners_are;
    masks_are = h.masks_are;
    rule = rule_kept setup name calls h.rule w (Gave o) (NextSplit w) o (next_is setup name calls h.rule w o found) inside asks;
    counted = counts_next setup.workers calls h.counted w o asks;
    sized = h.sized;
    sized_winners = h.sized_winners;
    sized_masks = h.sized_masks;
    few = h.few;
    few_workers = h.few_workers;
  }

  pub keeps_draw : (i n : ℕ) → n ≡ x.drawn i → Asks parts (Draw w i) a0 → IsBoard setup cursor (slice_set drawn i (n + 1)) winners masks (more (Drew' i n))
  keeps_draw i n is asks = record {
    cursor_is = h.cursor_is;
    within = h.within;
    drawn_are = subst (λ k. (j : ℕ) → j < splits_of setup → slice_get (slice_set drawn i (k + 1)) j ≡ Some (at1 x.drawn i (x.drawn i + 1) j)) (sym is) (put drawn x.drawn i (splits_of setup) (x.drawn i + 1) h.drawn_are asks.1);
    winners_are = h.winners_are;
    masks_are = h.masks_are;
    rule = rule_kept setup name calls h.rule w (Drew' i n) (Draw w i) n (draw_is setup name calls h.rule w i n is) inside asks;
    counted = counts_draw setup.workers calls h.counted w i n inside asks.0;
    sized = length-set drawn i (n + 1) ∙ h.sized;
    sized_winners = h.sized_winners;
    sized_masks = h.sized_masks;
    few = h.few;
    few_workers = h.few_workers;
  }

  pub keeps_commit : (i a : ℕ) (v : Verdict) (y : Option ℕ) → v ≡ verdict_of (x.winner i) a → y ≡ with_winner (x.winner i) a → Asks parts (Commit w i a) a0 → IsBoard setup cursor drawn (slice_set winners i y) masks (more (Committed i a v))
  keeps_commit i a v y answer is asks = record {
    cursor_is = h.cursor_is;
    within = h.within;
    drawn_are = h.drawn_are;
    winners_are = subst (λ k. (j : ℕ) → j < splits_of setup → slice_get (slice_set winners i k) j ≡ Some (at1 x.winner i (with_winner (x.winner i) a) j)) (sym is) (put winners x.winner i (splits_of setup) (with_winner (x.winner i) a) h.winners_are asks.0);
    masks_are = h.masks_are;
    rule = rule_kept setup name calls h.rule w (Committed i a v) (Commit w i a) v (commit_is setup name calls h.rule w i a v answer) inside asks;
    counted = counts_same setup.workers calls h.counted w (Committed i a v) refl (λ j. refl);
    sized = h.sized;
    sized_winners = length-set winners i y ∙ h.sized_winners;
    sized_masks = h.sized_masks;
    few = h.few;
    few_workers = h.few_workers;
  }

  pub keeps_revoke : (i a m : ℕ) → m ≡ with_bit (x.mask i) a → Asks parts (Revoke w i a) a0 → IsBoard setup cursor drawn winners (slice_set masks i m) (more (Revoked i a m))
  keeps_revoke i a m is asks = record {
    cursor_is = h.cursor_is;
    within = h.within;
    drawn_are = h.drawn_are;
    winners_are = h.winners_are;
    masks_are = subst (λ k. (j : ℕ) → j < splits_of setup → slice_get (slice_set masks i k) j ≡ Some (at1 x.mask i (with_bit (x.mask i) a) j)) (sym is) (put masks x.mask i (splits_of setup) (with_bit (x.mask i) a) h.masks_are asks.0);
    rule = rule_kept setup name calls h.rule w (Revoked i a m) (Revoke w i a) m (revoke_is setup name calls h.rule w i a m is) inside asks;
    counted = counts_same setup.workers calls h.counted w (Revoked i a m) refl (λ j. refl);
    sized = h.sized;
    sized_winners = h.sized_winners;
    sized_masks = length-set masks i m ∙ h.sized_masks;
    few = h.few;
    few_workers = h.few_workers;
  }
