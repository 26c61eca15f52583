-- A run that came to its end, in the words of what it was given.
use Rattle.std.proofs.Common.{◌≡◌, ℕ, ◌≤◌, ◌<◌, Bool, true, false, IsTrue, List, [], ◌++◌, length, map, Some, slice_index, refl, sym, subst}
use Rattle.std.specs.List.{slice_get}
use Rattle.hop_event.specs.declared.event.Event.{Event}
use Rattle.hop_event.specs.Agreement.{history_at}
use Rattle.hop_event.specs.Failing.{tries}
use Rattle.hop_ending.specs.Cuts.{put_of, writings_of}
use Rattle.hop_ending.specs.Doomed.{IsDoomedSplit}
use Rattle.hop_laws.specs.Blocking.{blocking_texts}
use Rattle.hop_machine.specs.step.Steps.{Setup, rules_of}
use Rattle.hop_machine.specs.step.Pushing.{AllOfWorker}
use Rattle.hop_machine.specs.actors.MapperTurns.{Mapper}
use Rattle.hop_machine.specs.home.Said.{history_of}
use Rattle.hop_machine.specs.play.Play.{Order, World, Opening, Over, NoneLeft, machine}
use Rattle.hop_machine.specs.play.FirstState.{Plays, IsNew}
use Rattle.hop_machine.specs.home.ReducerHome.{IsSetup, cuts_of}
use Rattle.hop_machine.specs.ending.Finishing.{AreBegun, AreHistories, AreSettled}
use Rattle.hop_machine.specs.run.AllHome.{RanToItsEnd, mapper_of}
use Rattle.hop_machine.proofs.play.Opened.{went-plays}
use Rattle.hop_machine.proofs.run.WholeRun.{run_is_settled, run_tries, run_went}
use Rattle.hop_settle.specs.Playing.{orders_of}
use Rattle.hop_replay.specs.Given.{Given, setup_given}
use Rattle.hop_replay.specs.Driven.{Drove, IsSpent, kept_of}
use Rattle.hop_replay.proofs.Whole.{worker-of, is-of, kept-so}

-- what is known of such a run of this setup
pub record DroveIn (s : Setup) (backup : Bool) (list : List Order) (d : World) (begun : List ℕ) (hs : List (List Event)) : Type 0 where
  pub play : Plays s backup list (Over, machine d)
  pub begun_are : AreBegun (rules_of s) (mapper_of d.actors s) begun
  pub count : length hs ≡ s.reducers
  pub each : (p : ℕ) → p < s.reducers → history_at hs p ≡ history_of d.deeds p
  pub settled : AreSettled (rules_of s) begun hs
  pub tried : (i : ℕ) → i < length s.lens → tries s.script s.attempts i ≡ Some (slice_index begun i)
  pub worker : ℕ → ℕ → ℕ
  pub below : (i a : ℕ) → i < length s.lens → a < slice_index begun i → worker i a < s.workers
  pub named : (i a p : ℕ) → i < length s.lens → a < slice_index begun i → AllOfWorker (worker i a) i a (history_at hs p)
  pub kept : (w : ℕ) (m : Mapper) → slice_get d.actors.mappers w ≡ Some m → (i a : ℕ) → m.kept i a ≡ kept_of (rules_of s) begun worker w i a

pub drove-in : (backup : Bool) (list : List Order) (a d : World) → IsSetup a.deeds.setup → IsNew backup a → d.deeds.setup ≡ a.deeds.setup → RanToItsEnd true (Opening 0 list) a d
    → ((w : ℕ) (m : Mapper) → slice_get d.actors.mappers w ≡ Some m → m.backup ≡ false)
    → (begun : List ℕ) → AreBegun (rules_of d.deeds.setup) (mapper_of d.actors d.deeds.setup) begun → (hs : List (List Event)) → AreHistories d.deeds hs → DroveIn d.deeds.setup backup list d begun hs
drove-in backup list a d set new same ran alone begun are hs them = record {
  play = subst (λ (s : Setup). Plays s backup list (Over, machine d)) (sym same) (went-plays backup list a (Over, d) set new (run_went true (Opening 0 list) a d ran) refl refl);
  begun_are = are;
  count = them.count;
  each = them.each;
  settled = run_is_settled true (Opening 0 list) a d ran begun are hs them;
  tried = run_tries true (Opening 0 list) a d ran alone begun are;
  worker = worker-of (Opening 0 list) a d ran begun are hs them;
  below = λ i n l k. (is-of (Opening 0 list) a d ran begun are hs them i n l k).worker;
  named = λ i n p l k. (is-of (Opening 0 list) a d ran begun are hs them i n l k).came p;
  kept = kept-so (Opening 0 list) a d ran begun are hs them;
}

-- what its writer put of each reducer, and then what is still in its cut lane, are the cuts of its history
pub record LeavesCuts (s : Setup) (d : World) : Type 0 where
  pub put : (p : ℕ) → p < s.reducers → writings_of p d.actors.writer.writings ++ map (put_of p) ((machine d).shared.cuts p) ≡ map (put_of p) (cuts_of s (history_of d.deeds p))
  pub others : (p : ℕ) → s.reducers ≤ p → writings_of p d.actors.writer.writings ≡ []

module _ (g : Given) where
  -- the same, as its callers say it
  pub drove-so : (tells : Bool) (d : World) (begun : List ℕ) (hs : List (List Event)) (texts : List (List ℕ)) → DroveIn (setup_given g) g.settings.backup (orders_of g.turns) d begun hs
      → length texts ≡ g.settings.reducers → (IsTrue tells → texts ≡ blocking_texts g.job g.records g.settings.reducers)
      → Drove g tells d.actors.mappers (record { begun = begun; histories = hs }) texts
  drove-so tells d begun hs texts h parts told = record {
    end = machine d;
    play = record { played = h.play; begun = h.begun_are; count = h.count; each = h.each };
    settled = h.settled;
    tries = h.tried;
    worker = h.worker;
    workers = record { below = h.below; named = h.named };
    kept = h.kept;
    parts = parts;
    blocking = told;
  }

  pub spent-in : (s : Setup) → s ≡ setup_given g → (d : World) (split : ℕ) → Plays s g.settings.backup (orders_of g.turns) (NoneLeft split, machine d) × IsDoomedSplit s split → LeavesCuts s d → IsSpent g split d.actors.writer.writings
  spent-in s same d split h cuts =
      let k = subst (λ (s : Setup). (Plays s g.settings.backup (orders_of g.turns) (NoneLeft split, machine d) × IsDoomedSplit s split) × LeavesCuts s d) same (h, cuts) in
      record { end = machine d; play = k.0.0; is_split = k.0.1.is_split; doomed = k.0.1.doomed; put = k.1.put; others = k.1.others }
