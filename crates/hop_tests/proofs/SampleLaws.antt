-- The run of the tests is one, and its histories name two attempts at most.
use Rattle.std.proofs.Common.{◌≡◌, ℕ, ◌<◌, ◌≤◌, List, [], ◌∷◌, length, slice_index, sym, subst, arith}
use Rattle.std.proofs.lemmas.List.Elements.{All-from_recursion}
use Rattle.hop_event.specs.declared.event.Event.{Event}
use Rattle.hop_event.specs.declared.event.Event.TheVariants.{Arrive, Ignore, Won, Revoked, Restart, Finish}
use Rattle.hop_event.specs.Legal.{IsAttempt, GrowsLegally}
use Rattle.hop_jobs.specs.Wc.{wc_meaning}
use Rattle.hop_jobs.specs.WcLaws.{wc_lawful}
use Rattle.hop_shelf.specs.Finish.{NamesBelow}
use Rattle.hop_shelf.specs.Names.{IsRun}
use Rattle.hop_tests.specs.Sample.{two_records, two_marks, sample_rules}

pub sample_run : IsRun wc_meaning two_records two_marks
sample_run = record {
  lawful = wc_lawful;
  short = All-from_recursion (λ (line : List ℕ). length line ≤ 131050) two_records (omega arith, (omega arith, tt));
  limit = omega arith;
}

below_two : (i a : ℕ) → IsAttempt sample_rules.lens (λ j. 2) i a → a < slice_index (2 ∷ []) i
below_two i a h = let first : i ≡ 0 = omega (arith, h.split) in subst (λ j. a < slice_index (2 ∷ []) j) (sym first) h.attempt

pub two_named : (p : ℕ) (h : List Event) → GrowsLegally sample_rules p h → NamesBelow (slice_index (2 ∷ [])) h
two_named p [] l = tt
two_named p (Arrive part via ∷ h) l = (below_two part.split part.attempt l.0.rule.0.attempt, two_named p h l.1)
two_named p (Ignore part via have ∷ h) l = (below_two part.split part.attempt l.0.rule.0.attempt, two_named p h l.1)
two_named p (Won i a ∷ h) l = (below_two i a l.0.rule.attempt, two_named p h l.1)
two_named p (Revoked i a ∷ h) l = (below_two i a l.0.rule.attempt, two_named p h l.1)
two_named p (Restart ∷ h) l = (tt, two_named p h l.1)
two_named p (Finish ∷ h) l = (tt, two_named p h l.1)
