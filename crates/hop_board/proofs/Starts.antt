-- A board at which nothing was asked.
use Rattle.std.proofs.Common.{◌≡◌, ℕ, ◌+◌, ◌<◌, ◌≤◌, List, [], length, Option, Some, None, zero, suc, refl, sym, ap, ◌∙◌, subst, arith}
use Rattle.std.specs.List.{slice_get}
use Rattle.std.proofs.lemmas.Option.{slice_get-get_or}
use Rattle.std.proofs.lemmas.List.{get_or-replicate, length-replicate}
use lib.ListN.{replicate}
use Rattle.hop_machine.specs.declared.words.Who.TheVariants as whose
use Rattle.hop_machine.specs.step.Setup.{splits_of}
use Rattle.hop_machine.specs.step.Steps.{Setup, rules_of}
use Rattle.hop_machine.proofs.board.Starts.{rule-starts}
use Rattle.hop_inner.specs.Setups.{parts}
use Rattle.hop_board.specs.PlainBoards.{board_deeds, total, calls_by, IsBoard}

all_same : {A : Type 0} (n i : ℕ) (a : A) → i < n → slice_get (replicate n a) i ≡ Some a
all_same n i a l = let k = length-replicate n a in slice_get-get_or (replicate n a) i a (omega (arith, l, k)) ∙ ap Some (get_or-replicate n i a a l)

pub starts : (setup : Setup) (n : ℕ) (drawn : List ℕ) (winners : List (Option ℕ)) (masks : List ℕ) → n ≡ splits_of setup → 0 < setup.attempts → setup.attempts ≤ 16 → setup.workers ≤ 8
    → drawn ≡ replicate n 0 → winners ≡ replicate n None → masks ≡ replicate n 0 → IsBoard setup 0 drawn winners masks []
starts setup n drawn winners masks is some few workers d w m =
    record {
      cursor_is = refl;
      within = omega arith;
      drawn_are = λ i l. ap (λ xs. slice_get xs i) d ∙ all_same n i 0 (subst (λ k. i < k) (sym is) l);
      winners_are = λ i l. ap (λ xs. slice_get xs i) w ∙ all_same n i None (subst (λ k. i < k) (sym is) l);
      masks_are = λ i l. ap (λ xs. slice_get xs i) m ∙ all_same n i 0 (subst (λ k. i < k) (sym is) l);
      rule = rule-starts (board_deeds setup (record { name = []; who = whose.Writer; calls = [] })) (λ v. refl) (rules_of setup) some;
      counted = record { each = λ v. omega arith; drawn = λ i. omega arith };
      sized = ap length d ∙ length-replicate n 0 ∙ is;
      sized_winners = ap length w ∙ length-replicate n None ∙ is;
      sized_masks = ap length m ∙ length-replicate n 0 ∙ is;
      few = few;
      few_workers = workers;
    }
