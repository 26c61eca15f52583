-- Parts of a mapper's turn, from what their calls ran.
use Rattle.std.proofs.Common.{◌≡◌, ℕ, ◌-◌, ◌&&◌, Bool, true, false, cond, eqb, List, [], ◌∷◌, ◌++◌, length, Option, Some, refl, sym, ap, ◌∙◌, arith, if◌then◌else◌}
use Rattle.std.specs.Prelude.{unwrap_or}
use Rattle.std.specs.Option.{option_map}
use Rattle.std.proofs.Math.Path.{fun_ext}
use Rattle.std.proofs.lemmas.List.{length_push, get_or_push}
use Rattle.std.proofs.lemmas.Option.{slice_get-get_or}
use Rattle.std.proofs.lemmas.Bool.{eqb-true, eq-eqb, true≢false}
use Rattle.hop_vault.specs.declared.kept.Kept.{Kept}
use Rattle.hop_vault.specs.Rows.{Table, row_of, end_of, kept_end, SameRows, AddsTo}
use Rattle.hop_machine.specs.declared.words.Message.{Message}
use Rattle.hop_machine.specs.declared.words.Turn.{Turn}
use Rattle.hop_machine.specs.declared.words.Turn.TheVariants.{Stopped}
use Rattle.hop_machine.specs.step.Steps.{Deeds, Runs, Prog, Done, Then, and_then}
use Rattle.hop_machine.specs.home.Conditions.{Safe}
use Rattle.hop_machine.specs.actors.MapperTurns.{Mapper, Lane, Lanes, each_lane, on_lanes, keeps}
use Rattle.hop_machine.proofs.step.Programs.{Runs-and_then}
use Rattle.hop_inner.proofs.Safety.{safe_after}

-- the first of two programs is safe where both together are
pub safe_first : {A B : Type 0} (parts : ℕ) (e : Bool) (k : Prog A) (f : A → Prog B) (a : Deeds) → Safe parts e (and_then k f) a → Safe parts e k a
safe_first parts e (Done x) f a s = tt
safe_first parts e (Then q k) f a s = (s.0, λ o b st. safe_first parts e (k o) f b (s.1 o b st))

-- a run leaves the value its ends
pub runs_ends : {A : Type 0} (e : Bool) (k : Prog A) (a b : Deeds) (r : A) → Runs e k a r b → b.ends ≡ a.ends
runs_ends e (Done x) a b r h = ap (λ (d : Deeds). d.ends) h.1
runs_ends e (Then s k) a b r h = runs_ends e (k h.0) h.1 b r h.3 ∙ h.2.ends

module _ (e : Bool) (m : Mapper) (f : ℕ → List Message → Prog Lane) (k : Mapper → Prog (Mapper × Turn)) (a mid : Deeds) (held : List (List Message)) where
  -- each lane went, and then it goes on
  pub lanes_went : (b : Deeds) (r : Mapper × Turn) → Runs e (each_lane f 0 m.held) a (record { went = true; held = held }) mid → Runs e (k (record m { held = held })) mid r b → Runs e (on_lanes m f k) a r b
  lanes_went b r h g = Runs-and_then e (each_lane f 0 m.held) (λ x. if x.went then k (record m { held = x.held }) else Done (record m { held = x.held }, Stopped)) a mid b (record { went = true; held = held }) r h g

  -- a lane stopped
  pub lanes_stopped : Runs e (each_lane f 0 m.held) a (record { went = false; held = held }) mid → Runs e (on_lanes m f k) a (record m { held = held }, Stopped) mid
  lanes_stopped h = Runs-and_then e (each_lane f 0 m.held) (λ x. if x.went then k (record m { held = x.held }) else Done (record m { held = x.held }, Stopped)) a mid mid (record { went = false; held = held }) (record m { held = held }, Stopped) h (refl, refl)

-- # What a vault has kept

-- the same spills end where they did
pub same_ends : (before after : Table) → SameRows before after → ◌≡◌ {A = ℕ → ℕ → ℕ} (λ i a. kept_end after i a) (λ i a. kept_end before i a)
same_ends before after same = fun_ext (λ i. fun_ext (λ a. ap end_of (same i a)))

end_push : (row : List Kept) (kept : Kept) → end_of (row ++ kept ∷ []) ≡ kept.to
end_push row kept =
    let len = length_push row kept in
    let last : length row ≡ length (row ++ kept ∷ []) - 1 = omega (arith, len) in
    ap (λ (o : Option Kept). unwrap_or (option_map (λ (k : Kept). k.to) o) 0)
    (slice_get-get_or (row ++ kept ∷ []) (length (row ++ kept ∷ []) - 1) kept (omega (arith, len)) ∙ ap Some (get_or_push row kept kept (length (row ++ kept ∷ []) - 1) last))

end_cond : (row : List Kept) (kept : Kept) (b : Bool) → end_of (cond b (row ++ kept ∷ []) row) ≡ cond b kept.to (end_of row)
end_cond row kept true = end_push row kept
end_cond row kept false = refl

-- where the spills of each attempt end, with one more of this attempt
pub ends_after : (before after : Table) (split attempt : ℕ) (kept : Kept) → AddsTo before after split attempt kept → (i a : ℕ) → kept_end after i a ≡ cond (eqb i split && eqb a attempt) kept.to (kept_end before i a)
ends_after before after split attempt kept adds i a = ap end_of (adds i a) ∙ end_cond (row_of before i a) kept (eqb i split && eqb a attempt)

eqb_sym : (a b : ℕ) → eqb a b ≡ eqb b a
eqb_sym a b = by (eqb a b) (eqb b a) refl refl
  where
    by : (s t : Bool) → eqb a b ≡ s → eqb b a ≡ t → s ≡ t
    by true true e f = refl
    by false false e f = refl
    by true false e f = absurd (true≢false (sym (eq-eqb b a (sym (eqb-true a b e))) ∙ f))
    by false true e f = absurd (true≢false (sym (eq-eqb a b (sym (eqb-true b a f))) ∙ e))

-- so the machine says it
pub keeps_after : (before after : Table) (split attempt : ℕ) (kept : Kept) → AddsTo before after split attempt kept → (end : ℕ) → kept.to ≡ end → ◌≡◌ {A = ℕ → ℕ → ℕ} (λ i a. kept_end after i a) (keeps (λ i a. kept_end before i a) split attempt end)
keeps_after before after split attempt kept adds end e =
    fun_ext (λ i. fun_ext (λ a.
    ends_after before after split attempt kept adds i a
    ∙ ap (λ (b : Bool). cond b kept.to (kept_end before i a)) (λ k. eqb_sym i split k && eqb_sym a attempt k)
    ∙ ap (λ (n : ℕ). cond (eqb split i && eqb attempt a) n (kept_end before i a)) e))

-- what has to be known before each lane is flushed, and after
module _ (parts : ℕ) (e : Bool) (m : Mapper) (f : ℕ → List Message → Prog Lane) (k : Mapper → Prog (Mapper × Turn)) (a : Deeds) (safe : Safe parts e (on_lanes m f k) a) where
  abbrev goes_on : Lanes → Prog (Mapper × Turn)
  goes_on x = if x.went then k (record m { held = x.held }) else Done (record m { held = x.held }, Stopped)

  pub lanes_safe : Safe parts e (each_lane f 0 m.held) a
  lanes_safe = safe_first parts e (each_lane f 0 m.held) goes_on a safe

  pub later_safe : (held : List (List Message)) (b : Deeds) → Runs e (each_lane f 0 m.held) a (record { went = true; held = held }) b → Safe parts e (k (record m { held = held })) b
  later_safe held b h = safe_after parts e (each_lane f 0 m.held) goes_on a b (record { went = true; held = held }) safe h
