-- The marks that are due are all that have their cuts here.
use Rattle.std.proofs.Common.{◌≡◌, ℕ, ◌<◌, ◌≤◌, Bool, true, false, cond, List, [], ◌∷◌, filter, refl, sym, ◌∙◌, subst, arith, ◌&&◌}
use Rattle.std.specs.Prelude.{All, Contains, nat_lt, nat_le}
use Rattle.std.proofs.lemmas.Bool.{true≢false}
use Rattle.std.proofs.lemmas.Bool.Decides.{nat_tests}
use Rattle.std.proofs.lemmas.List.Elements.{All-cons, All-head, All-tail, All-weaker, All-contains_itself}
use Rattle.hop_base.specs.Ranges.{AscendFrom, AreMarks}
use Rattle.hop_event.specs.Coverage.{top_progress, progress_before}
use Rattle.hop_event.proofs.Cuts.{cut_here}
use Rattle.hop_shelf.specs.Journal.{JournalValue}
use Rattle.hop_shelf.specs.Cuts.{AreDue, AreAllCut}

marks_above : (low : ℕ) (marks : List ℕ) → AscendFrom low marks → All (λ m. low < m) marks
marks_above low [] h = λ k d l. absurd (omega (arith, l))
marks_above low (m ∷ marks) h = All-cons (λ n. low < n) m marks h.0 (All-weaker (λ n. m < n) (λ n. low < n) (λ n l. omega (arith, h.0, l)) marks (marks_above m marks h.2))

unfiltered_step : {X : Type 0} (p : X → Bool) (P : X → Type 0) (x : X) (xs : List X) (b : Bool) → p x ≡ b → (All P (filter p xs) → All (λ y. p y ≡ true → P y) xs) → All P (cond b (x ∷ filter p xs) (filter p xs)) → All (λ y. p y ≡ true → P y) (x ∷ xs)
unfiltered_step p P x xs true e ih h = All-cons (λ y. p y ≡ true → P y) x xs (λ t. All-head P x (filter p xs) h) (ih (All-tail P x (filter p xs) h))
unfiltered_step p P x xs false e ih h = All-cons (λ y. p y ≡ true → P y) x xs (λ t. absurd (true≢false (sym t ∙ e))) (ih h)

-- what is true of all that a filter keeps is true of what passes it
all_unfiltered : {X : Type 0} (p : X → Bool) (P : X → Type 0) (xs : List X) → All P (filter p xs) → All (λ x. p x ≡ true → P x) xs
all_unfiltered p P [] h = λ k d l. absurd (omega (arith, l))
all_unfiltered p P (x ∷ xs) h = unfiltered_step p P x xs (p x) refl (all_unfiltered p P xs) h

passes : (before top m : ℕ) → before < m → m ≤ top → (nat_lt before m && nat_le m top) ≡ true
passes before top m l h = grind (arith, nat_tests)

pub all_cut : (marks : List ℕ) (j : JournalValue) → AreMarks marks → j.marks ≡ marks → AreDue j → AreAllCut j j.due
all_cut marks j are same due =
    let some : All (λ m. 0 < m) j.marks = subst (All (λ m. 0 < m)) (sym same) (marks_above 0 marks are.ascending) in
    let before = progress_before j.tentative j.lens j.events in
    let top = top_progress j.tentative j.lens j.events in
    let kept = all_unfiltered (λ m. nat_lt before m && nat_le m top) (Contains j.due) j.marks (subst (All (Contains j.due)) due (All-contains_itself j.due)) in
    λ k d l. λ c.
    let here = cut_here j.tentative j.lens _ j.events c (omega (arith, some k d l)) in
    kept k d l (passes before top _ here.0 here.1)
