-- What the coordinator's calls change of a plain world.
use Rattle.std.proofs.Common.{◌≡◌, ℕ, ◌<◌, zero, suc, arith, length, get_or, ◌==◌, ◌&&◌, Bool, true, false, List, [], ◌∷◌, ◌++◌, map, Option, Some, None, refl, sym, ap, ◌∙◌, subst}
use Rattle.std.proofs.lemmas.List.{map-append}
use Rattle.std.proofs.lemmas.Bool.{eqb-true}
use Rattle.std.specs.Prelude.{not}
use Rattle.hop_cut.specs.declared.cut.Cut.{Cut}
use Rattle.hop_machine.specs.declared.words.Who.{Who}
use Rattle.hop_machine.specs.declared.words.Who.TheVariants as whose
use Rattle.hop_machine.specs.step.Steps.{Setup, rules_of, Deeds, Begins, End, OutEnd, InEnd, CutOutEnd, CutInEnd, BoardEnd, KeepEnd, at1, at2}
use Rattle.hop_crew.specs.Grid.{both_true}
use Rattle.hop_lane.specs.PlainLanes.{Lane}
use Rattle.hop_inner.specs.Locks.{Lock}
use Rattle.hop_machine.specs.settling.Meeting.{Meets, CutMeets, Gathers, is_mappers_board}
use Rattle.hop_crew.specs.PlainWorlds.{sent_at, taken_at, is_keep, is_cut, has_end, deeds_with, may_ask, Mail}
use Rattle.std.specs.List.{slice_get}
use Rattle.hop_machine.specs.board.Board.{BoardRule}
use Rattle.hop_board.specs.PlainBoards.{BoardValue, words_of, seats_of}
use Rattle.hop_board.proofs.Known.{stands}
use Rattle.std.proofs.lemmas.Option.{slice_get-get_or}
use Rattle.hop_inner.proofs.LockSteps.{grows_same}

at2_by : {A : Type 0} (f : ℕ → ℕ → A) (w p v q : ℕ) (t : Bool) → (t ≡ true → (v ≡ w) × (q ≡ p)) → f v q ≡ Rattle.std.specs.Prelude.cond t (f w p) (f v q)
at2_by f w p v q true h = λ i. f ((h refl).0 i) ((h refl).1 i)
at2_by f w p v q false h = refl

pub at2_same : {A : Type 0} (f : ℕ → ℕ → A) (w p : ℕ) → f ≡ at2 f w p (f w p)
at2_same f w p = λ i v q. at2_by f w p v q ((v == w) && (q == p)) (λ e. let b = both_true (v == w) (q == p) e in (eqb-true v w b.0, eqb-true q p b.1)) i

at1_by : {A : Type 0} (f : ℕ → A) (p q : ℕ) (t : Bool) → (t ≡ true → q ≡ p) → f q ≡ Rattle.std.specs.Prelude.cond t (f p) (f q)
at1_by f p q true h = ap f (h refl)
at1_by f p q false h = refl

pub at1_self : {A : Type 0} (f : ℕ → A) (p : ℕ) → f ≡ at1 f p (f p)
at1_self f p = λ i q. at1_by f p q (q == p) (λ e. eqb-true q p e) i

pub follows : {T M : Type 0} (f : T → M) (r : Option (Lane T)) → Begins (taken_at f r).taken (sent_at f r).sent
follows f None = (Rattle.std.proofs.Common.[], refl)
follows f (Some l) = (map f l.held, map-append f l.taken l.held)

-- each end was told all already
pub meets : (d : Deeds) (w p : ℕ) → (d.did.ins w p).taken ≡ d.told.taken w p → (d.did.outs w p).sent ≡ d.told.sent w p → Begins (d.did.ins w p).taken (d.did.outs w p).sent → Meets w p d d
meets d w p t s b = record {
  changes = λ i. record d { told = record d.told { taken = (at2_same d.told.taken w p ∙ ap (at2 d.told.taken w p) (sym t)) i; sent = (at2_same d.told.sent w p ∙ ap (at2 d.told.sent w p) (sym s)) i } };
  grows = grows_same d.told;
  follows = b;
}

pub cut_meets : (d : Deeds) (p : ℕ) → (d.did.cut_ins p).taken ≡ d.told.cut_taken p → (d.did.cut_outs p).sent ≡ d.told.cut_sent p → Begins (d.did.cut_ins p).taken (d.did.cut_outs p).sent → CutMeets p d d
cut_meets d p t s b = record {
  changes = λ i. record d { told = record d.told { cut_taken = (at1_self d.told.cut_taken p ∙ ap (at1 d.told.cut_taken p) (sym t)) i; cut_sent = (at1_self d.told.cut_sent p ∙ ap (at1 d.told.cut_sent p) (sym s)) i } };
  grows = grows_same d.told;
  follows = b;
}

keep_within : (xs : List Lock) (i p : ℕ) → is_keep p (slice_get xs i) ≡ true → i < length xs
keep_within [] i p h = cc
keep_within (x ∷ xs) zero p h = omega arith
keep_within (x ∷ xs) (suc i) p h = let k = keep_within xs i p h in omega arith

pub keep_there : (xs : List Lock) (i p : ℕ) → is_keep p (slice_get xs i) ≡ true → (z r : Lock) → r ≡ get_or xs i z → slice_get xs i ≡ Some r
keep_there xs i p h z r e = slice_get-get_or xs i z (keep_within xs i p h) ∙ ap Some (sym e)

pub keep_number : (p : ℕ) (r : Option Lock) (k : Lock) → r ≡ Some k → is_keep p r ≡ true → k.number ≡ p
keep_number p r k e h = eqb-true k.number p (ap (is_keep p) (sym e) ∙ h)

cut_within : (xs : List (Lane Cut)) (i p : ℕ) → is_cut p (slice_get xs i) ≡ true → i < length xs
cut_within [] i p h = cc
cut_within (x ∷ xs) zero p h = omega arith
cut_within (x ∷ xs) (suc i) p h = let k = cut_within xs i p h in omega arith

pub cut_there : (xs : List (Lane Cut)) (i p : ℕ) → is_cut p (slice_get xs i) ≡ true → (z r : Lane Cut) → r ≡ get_or xs i z → slice_get xs i ≡ Some r
cut_there xs i p h z r e = slice_get-get_or xs i z (cut_within xs i p h) ∙ ap Some (sym e)

pub cut_key : (p : ℕ) (r : Option (Lane Cut)) (l : Lane Cut) → r ≡ Some l → is_cut p r ≡ true → l.key.reducer ≡ p
cut_key p r l e h = eqb-true l.key.reducer p (ap (is_cut p) (sym e) ∙ h)

-- # The board's ends are gathered

and_true : (a : Bool) → a ≡ (a && true)
and_true true = refl
and_true false = refl

never : (a : Bool) → false ≡ (a && false)
never true = refl
never false = refl

module _ (setup : Setup) (gathered : Bool) (board : BoardValue) (L : ℕ → ℕ → Option (Lane Mail)) (C : ℕ → Option (Lane Cut)) (K : ℕ → Option Lock) where
  asks : (who : Who) → may_ask setup true who ≡ (may_ask setup gathered who && not (is_mappers_board (BoardEnd who)))
  asks (whose.Mapper w) = never (may_ask setup gathered (whose.Mapper w))
  asks (whose.Reducer p) = refl
  asks (whose.Merger j) = refl
  asks whose.Writer = refl

  fewer : (e : End) → has_end setup true board.name L C K e ≡ (has_end setup gathered board.name L C K e && not (is_mappers_board e))
  fewer (OutEnd w p) = and_true (has_end setup gathered board.name L C K (OutEnd w p))
  fewer (InEnd w p) = and_true (has_end setup gathered board.name L C K (InEnd w p))
  fewer (CutOutEnd p) = and_true (has_end setup gathered board.name L C K (CutOutEnd p))
  fewer (CutInEnd p) = and_true (has_end setup gathered board.name L C K (CutInEnd p))
  fewer (BoardEnd who) = asks who
  fewer (KeepEnd p) = and_true (has_end setup gathered board.name L C K (KeepEnd p))

  pub gathers : BoardRule (rules_of setup) (words_of board.calls) (λ w. seats_of board.calls (whose.Mapper w)) → Gathers (deeds_with setup gathered board L C K) (deeds_with setup true board L C K)
  gathers rule = record {
    changes = λ i. record (deeds_with setup gathered board L C K) { ends = record (deeds_with setup gathered board L C K).ends { has = λ e. fewer e i } };
    gathered = record { words = words_of board.calls; rule = rule; knows = λ who. stands (words_of board.calls) };
  }
