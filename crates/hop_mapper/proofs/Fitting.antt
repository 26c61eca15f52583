-- What is held fits a vault that has kept one spill more.
use Rattle.std.proofs.Common.{◌≡◌, ℕ, ◌<◌, ◌&&◌, Bool, true, false, cond, eqb, List, [], ◌∷◌, ◌++◌, sym, ap, ◌∙◌, subst, append_assoc}
use Rattle.std.specs.Prelude.{All}
use Rattle.std.proofs.lemmas.Bool.{eq-eqb}
use Rattle.std.proofs.lemmas.List.Elements.{All-nil, All-cons, All-head, All-tail}
use Rattle.hop_base.specs.declared.part.Part.{Part}
use Rattle.hop_base.specs.Meaning.{Meaning}
use Rattle.hop_base.specs.Run.{RunSettings}
use Rattle.hop_vault.specs.declared.kept.Kept.{Kept}
use Rattle.hop_vault.specs.Rows.{Table, row_of, IsStretch, AddsTo}
use Rattle.hop_machine.specs.step.Steps.{Verdicts, Deeds}
use Rattle.hop_mapper.specs.Mappers.{MapperValue, SameStore, FitsBoard}
use Rattle.hop_press.specs.declared.row.Row.{Row}
use Rattle.hop_press.specs.declared.row.Row.TheVariants.{Range, Notice}
use Rattle.hop_press.specs.Held.{LaneValue, lane_at}
use Rattle.hop_press.specs.Fits.{IsWhole, FitsRow, HeldFits}

stretch_more : (row : List Kept) (from to : ℕ) (spills : List Kept) (kept : Kept) (b : Bool) → IsStretch row from to spills → IsStretch (cond b (row ++ kept ∷ []) row) from to spills
stretch_more row from to spills kept false h = h
stretch_more row from to spills kept true h = record {
  before = h.before;
  after = h.after ++ kept ∷ [];
  parts = ap (λ r. r ++ kept ∷ []) h.parts ∙ append_assoc h.before (spills ++ h.after) (kept ∷ []) ∙ ap (λ r. h.before ++ r) (append_assoc spills h.after (kept ∷ []));
  chain = h.chain;
  some = h.some;
}

module _ (before after : Table) (split attempt : ℕ) (kept : Kept) (adds : AddsTo before after split attempt kept) where
  whole_more : (part : Part) → IsWhole before part → IsWhole after part
  whole_more part h = record {
    spills = h.spills;
    stretch = subst (λ (row : List Kept). IsStretch row part.from part.to h.spills) (sym (adds part.split part.attempt))
        (stretch_more (row_of before part.split part.attempt) part.from part.to h.spills kept (eqb part.split split && eqb part.attempt attempt) h.stretch);
  }

  -- the spill that was kept is whole
  pub whole_now : (part : Part) → part.split ≡ split → part.attempt ≡ attempt → kept.from ≡ part.from → kept.to ≡ part.to → part.from < part.to → IsWhole after part
  whole_now part i a f t some =
      let here : (eqb part.split split && eqb part.attempt attempt) ≡ true = ap (λ (b : Bool). b && eqb part.attempt attempt) (eq-eqb part.split split i) ∙ eq-eqb part.attempt attempt a in
      let row : row_of after part.split part.attempt ≡ row_of before part.split part.attempt ++ kept ∷ [] =
      adds part.split part.attempt ∙ ap (λ (b : Bool). cond b (row_of before part.split part.attempt ++ kept ∷ []) (row_of before part.split part.attempt)) here in
      let some_kept : part.from < kept.to = subst (λ (y : ℕ). part.from < y) (sym t) some in
      record {
        spills = kept ∷ [];
        stretch = record { before = row_of before part.split part.attempt; after = []; parts = row; chain = (f, some_kept, t); some = some };
      }

  module _ {K : Type 0} (knows : K → Verdicts) (board : K → List ℕ) (name : List ℕ) where
    row_more : (row : Row K) → FitsRow before knows board name row → FitsRow after knows board name row
    row_more (Range part) h = whole_more part h
    row_more (Notice i a known) h = h

    rows_more : (rows : List (Row K)) → All (FitsRow before knows board name) rows → All (FitsRow after knows board name) rows
    rows_more [] h = All-nil (FitsRow after knows board name)
    rows_more (row ∷ rows) h =
        All-cons (FitsRow after knows board name) row rows (row_more row (All-head (FitsRow before knows board name) row rows h)) (rows_more rows (All-tail (FitsRow before knows board name) row rows h))

    -- what is held fits still
    pub held_more : (job : Meaning) (records : List (List ℕ)) (settings : RunSettings) (tells : Bool) (lanes : List (LaneValue K)) → HeldFits job records settings tells before knows board name lanes → HeldFits job records settings tells after knows board name lanes
    held_more job records settings tells lanes h = λ p. record { ready = (h p).ready; rows = rows_more (lane_at lanes p).rows (h p).rows }

-- what is held fits where it, the vault and the board are as before
pub fits_same : (job : Meaning) (records : List (List ℕ)) (settings : RunSettings) (tells : Bool) {V K : Type 0} (knows : K → Verdicts) (board : K → List ℕ) (m n : MapperValue V K) (a b : Deeds) → SameStore m n → b.ends ≡ a.ends
    → FitsBoard job records settings tells knows board m a → FitsBoard job records settings tells knows board n b
fits_same job records settings tells {K = K} knows board m n a b same ends h =
    let v = ap (λ x. x.rows) same.vault in let d = ap (λ x. x.board) ends in
    subst (λ (t : Table). HeldFits job records settings tells t knows board b.ends.board n.held) (sym v)
    (subst (λ (name : List ℕ). HeldFits job records settings tells m.vault.rows knows board name n.held) (sym d)
    (subst (λ (lanes : List (LaneValue K)). HeldFits job records settings tells m.vault.rows knows board a.ends.board lanes) (sym same.held) h))
