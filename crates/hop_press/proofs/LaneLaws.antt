-- The rows of a lane.
use Rattle.std.proofs.Common.{◌≡◌, ℕ, Bool, List, [], ◌∷◌, ◌++◌, refl, sym, ap, ◌∙◌, subst, map, Option, Some, None, true, false}
use Rattle.std.specs.Prelude.{All, Result, Ok, Err, IsErr, OnOk, OnErr, IfSome, is_ok, is_some}
use Rattle.std.specs.List.{AllByRecursion}
use Rattle.std.proofs.lemmas.List.{map-append}
use Rattle.std.proofs.lemmas.Bool.{true≢false}
use Rattle.std.proofs.lemmas.List.Elements.{All-from_recursion, recursion_from_All, All-append}
use Rattle.hop_inner.specs.declared.message.Message.{Message}
use Rattle.hop_inner.specs.Messages.{said}
use Rattle.hop_press.specs.declared.row.Row.{Row}
use Rattle.hop_press.specs.Held.{LaneValue, said_row, said_first, said_lane, lane_left}
use Rattle.hop_inner.specs.Setups.{parts}
use Rattle.hop_machine.specs.declared.words.Message.{Message as Said}
use Rattle.hop_machine.specs.step.Steps.{Deeds, Runs}
use Rattle.hop_machine.specs.actors.MapperTurns.{offer, with_row, joined, last_row}
use Rattle.hop_press.proofs.LanePrograms.{with_row-append, offer_behind, offer_stops}

-- what holds of all rows holds of the first, and of those behind it
pub first_row : {K : Type 0} (P : Row K → Type 0) (rows rest : List (Row K)) (row : Row K) → rows ≡ row ∷ rest → All P rows → P row × All P rest
first_row P rows rest row is h = let t = recursion_from_All P (row ∷ rest) (subst (λ (rs : List (Row _)). All P rs) is h) in (t.0, All-from_recursion P rest t.1)

-- a lane that has this ready message
pub is_held : {K : Type 0} (lane : LaneValue K) (ready : Option (Message K)) (rows : List (Row K)) (msg : Message K) → record { ready = ready; rows = rows } ≡ lane → Some msg ≡ ready → lane ≡ record { ready = Some msg; rows = rows }
is_held lane ready rows msg is some = sym is ∙ (λ i. record { ready = sym some i; rows = rows })

pub not_ok : {T E : Type 0} (r : Result T E) → IsErr r → is_ok r ≡ false
not_ok (Ok x) h = absurd (true≢false (sym h))
not_ok (Err e) h = refl

module _ {K : Type 0} where
  -- one row more
  pub all_push : (P : Row K → Type 0) (rows new : List (Row K)) (row : Row K) → new ≡ rows ++ row ∷ [] → All P rows → P row → All P new
  all_push P rows new row is h x = subst (λ (rs : List (Row K)). All P rs) (sym is) (All-append P rows (row ∷ []) h (All-from_recursion P (row ∷ []) (x, tt)))

  last_of : (P : Row K → Type 0) (rows : List (Row K)) (row : Row K) → AllByRecursion P (rows ++ row ∷ []) → AllByRecursion P rows × P row
  last_of P [] row h = (tt, h.0)
  last_of P (r ∷ rows) row h = let t = last_of P rows row h.1 in ((h.0, t.0), t.1)

  -- what holds of all rows holds of the last, and of those before it
  pub last_row_of : (P : Row K → Type 0) (rows front : List (Row K)) (row : Row K) → rows ≡ front ++ row ∷ [] → All P rows → All P front × P row
  last_row_of P rows front row is h =
      let t = last_of P front row (recursion_from_All P (front ++ row ∷ []) (subst (λ (rs : List (Row K)). All P rs) is h)) in (All-from_recursion P front t.0, t.1)

  -- the last row and the one before it, as they are said
  pub said_joined : (rows front new : List (Row K)) (last row : Row K) → rows ≡ front ++ last ∷ [] → map said_row new ≡ map said_row front ++ last_row (joined (said_row last) (said_row row)) (said_row last) (said_row row)
      → map said_row new ≡ with_row (map said_row rows) (said_row row)
  said_joined rows front new last row is h =
      h ∙ sym (with_row-append (map said_row front) (said_row last) (said_row row))
      ∙ ap (λ (t : List Said). with_row t (said_row row)) (sym (ap (map said_row) is ∙ map-append said_row front (last ∷ [])))

  -- an offer where something is held
  pub offer_held : {T E : Type 0} (e : Bool) (w p : ℕ) (m : Said) (a : Deeds) (ready : Option (Message K)) (rows : List (Row K)) (result : Result T E) (new : LaneValue K) → is_some ready ≡ true → new.ready ≡ ready
      → OnOk result (map said_row new.rows ≡ with_row (map said_row rows) m) → OnErr result (new ≡ record { ready = ready; rows = rows })
      → Runs e (offer w m p (said_lane (record { ready = ready; rows = rows }))) a (lane_left result (said_lane new)) a
  offer_held e w p m a None rows result new some same ok err = absurd (true≢false (sym some))
  offer_held e w p m a (Some r) rows (Ok x) new some same ok err =
      let held : said_lane new ≡ said r ∷ with_row (map said_row rows) m = λ i. said_first (same i) (ok i) in
      subst (λ (t : List Said). Runs e (offer w m p (said r ∷ map said_row rows)) a (record { went = true; held = t }) a) (sym held) (offer_behind parts e w p m (said r) (map said_row rows) a)
  offer_held e w p m a (Some r) rows (Err x) new some same ok err =
      subst (λ (t : List Said). Runs e (offer w m p (said r ∷ map said_row rows)) a (record { went = false; held = t }) a) (sym (ap said_lane err)) (offer_stops parts e w p m (said r) (map said_row rows) a)

  pub if_some_at : (P : Message K → Type 0) (old new : Option (Message K)) → old ≡ new → IfSome old P → IfSome new P
  if_some_at P old new is h = subst (λ (o : Option (Message K)). IfSome o P) is h
