-- A mapper as it is made.
use Rattle.std.proofs.Common.{◌≡◌, ℕ, zero, suc, ◌<◌, ◌≤◌, Bool, false, List, [], ◌∷◌, Option, Some, None, refl, sym, ap, ◌∙◌, subst, arith}
use Rattle.std.specs.Prelude.{All, IfSome, replicate, slice_index}
use Rattle.std.proofs.Math.Path.{fun_ext}
use Rattle.std.proofs.lemmas.List.Elements.{All-nil}
use Rattle.hop_base.specs.Files.{Files}
use Rattle.hop_base.specs.Meaning.{Meaning}
use Rattle.hop_base.specs.Run.{ScriptLines, RunSettings}
use Rattle.hop_event.specs.Legal.{Rules}
use Rattle.hop_records.specs.Records.{lens_of}
use Rattle.hop_shelf.specs.Names.{book_of, rules_of}
use Rattle.hop_vault.specs.declared.kept.Kept.{Kept}
use Rattle.hop_vault.specs.Rows.{Table, row_of, kept_end}
use Rattle.hop_vault.specs.Vaults.{VaultValue}
use Rattle.hop_machine.specs.home.Starts.{new_mapper, nothing_held}
use Rattle.hop_machine.specs.step.Steps.{Verdicts, Deeds}
use Rattle.hop_press.specs.Fits.{IsMade, KeepsMade, FitsRow, LaneFits}
use Rattle.hop_press.specs.Held.{LaneValue, no_lane, lane_at, said_lanes, AreReady}
use Rattle.hop_actors.specs.Spilled.{IsSpilled}
use Rattle.hop_mapper.specs.declared.work.Work.TheVariants as work
use Rattle.hop_mapper.specs.Mappers.{MapperValue, mapper_of, FitsBoard}
use Rattle.hop_mapper.specs.Next.{KeepsWithin}

module _ (K : Type 0) where
  held_none : (n : ℕ) → said_lanes (replicate n (no_lane {K = K})) ≡ nothing_held n
  held_none zero = refl
  held_none (suc n) = ap (λ xs. [] ∷ xs) (held_none n)

  lane_none : (n p : ℕ) → lane_at (replicate n (no_lane {K = K})) p ≡ no_lane
  lane_none zero zero = refl
  lane_none zero (suc p) = refl
  lane_none (suc n) zero = refl
  lane_none (suc n) (suc p) = lane_none n p

  pub ready_none : (n : ℕ) (held : List (LaneValue K)) → held ≡ replicate n no_lane → AreReady held
  ready_none n held is = λ p _. ap (λ (lane : LaneValue K). lane.rows) (ap (λ xs. lane_at xs p) is ∙ lane_none n p)

zeros : (n i : ℕ) → slice_index (replicate n 0) i ≡ 0
zeros zero zero = refl
zeros zero (suc i) = refl
zeros (suc n) zero = refl
zeros (suc n) (suc i) = zeros n i

row_none : (i a : ℕ) → row_of [] i a ≡ []
row_none zero zero = refl
row_none zero (suc a) = refl
row_none (suc i) zero = refl
row_none (suc i) (suc a) = refl

end_none : (i a : ℕ) → kept_end [] i a ≡ 0
end_none i a = ap Rattle.hop_vault.specs.Rows.end_of (row_none i a)

module _ (records : List (List ℕ)) (script : ScriptLines) (settings : RunSettings) {V K : Type 0} (vault : VaultValue V) (press : List (LaneValue K)) (begun : List ℕ) (n : ℕ)
    (rows : vault.rows ≡ []) (held : press ≡ replicate settings.reducers no_lane) (counts : begun ≡ replicate n 0) where
  -- it is the machine's new mapper
  pub new_is : mapper_of records script settings (record { vault = vault; held = press; turns = 0; work = work.Free; dry = false; place = 0; begun = begun; ended = false; failed = false }) ≡ new_mapper vault.worker (rules_of records script settings) settings.backup settings.reducers
  new_is =
      let h : said_lanes press ≡ nothing_held settings.reducers = ap said_lanes held ∙ held_none K settings.reducers in
      let b : ◌≡◌ {A = ℕ → ℕ} (λ i. slice_index begun i) (λ i. 0) = fun_ext (λ i. ap (λ xs. slice_index xs i) counts ∙ zeros n i) in
      let k : ◌≡◌ {A = ℕ → ℕ → ℕ} (λ i a. kept_end vault.rows i a) (λ i a. 0) = fun_ext (λ i. fun_ext (λ a. ap (λ t. kept_end t i a) rows ∙ end_none i a)) in
      λ j. record (new_mapper vault.worker (rules_of records script settings) settings.backup settings.reducers) { held = h j; begun = b j; kept = k j }

-- of no attempt anything is kept
pub within_none : (rules : Rules) (rows : Table) → rows ≡ [] → KeepsWithin rules rows
within_none rules rows is = λ i a lt. let e : kept_end rows i a ≡ 0 = ap (λ t. kept_end t i a) is ∙ end_none i a in absurd (omega arith)

module _ (job : Meaning) (records : List (List ℕ)) (settings : RunSettings) where
  keeps_empty : (held : Option Files) → KeepsMade job records settings held []
  keeps_empty held = record {
    chain = λ i a. subst (λ (row : List Kept). Rattle.hop_vault.specs.Rows.IsChain 0 row (Rattle.hop_vault.specs.Rows.end_of row)) (sym (row_none i a)) refl;
    made = λ i a. subst (λ (row : List Kept). All (IsMade job records settings held i a) row) (sym (row_none i a)) (All-nil (IsMade job records settings held i a));
  }

  -- nothing is kept
  pub keeps_nothing : (held : Option Files) (rows : Table) → rows ≡ [] → KeepsMade job records settings held rows
  keeps_nothing held rows is = subst (λ (t : Table). KeepsMade job records settings held t) (sym is) (keeps_empty held)

  -- and no file was put
  pub spilled_none : (held start : Option Files) (rows : Table) → rows ≡ [] → IfSome held (λ files. start ≡ Some files) → IsSpilled job records settings.split settings.reducers settings.spill (lens_of (book_of records settings)) (λ i a. kept_end rows i a) start held
  spilled_none None start rows is h = h
  spilled_none (Some files) start rows is h = (
    files,
    h,
    record {
      made = λ q k. let z : kept_end rows q.split q.attempt ≡ 0 = ap (λ t. kept_end t q.split q.attempt) is ∙ end_none q.split q.attempt in let w : q.to ≤ kept_end rows q.split q.attempt = k.within in let s : q.from < q.to = k.some in absurd (omega arith);
      others = λ name n. refl;
    },
  )

-- what holds nothing fits any board
pub fits_none : (job : Meaning) (records : List (List ℕ)) (settings : RunSettings) (tells : Bool) {V K : Type 0} (knows : K → Verdicts) (board : K → List ℕ) (m : MapperValue V K) (n : ℕ) (d : Deeds) → m.held ≡ replicate n no_lane → FitsBoard job records settings tells knows board m d
fits_none job records settings tells {K = K} knows board m n d is = λ p.
    subst (λ (lane : LaneValue K). LaneFits job records settings tells m.vault.rows knows board d.ends.board p lane) (sym (ap (λ xs. lane_at xs p) is ∙ lane_none K n p))
    (record { ready = tt; rows = All-nil (FitsRow m.vault.rows knows board d.ends.board) })
