-- Small runs whose plays are worked out by hand: what their traces have to be.
use Rattle.std.specs.Prelude.{◌≡◌, ℕ, zero, suc, Bool, true, false, List, [], ◌∷◌, Option, Some, map, length, reverse}
use Rattle.std.specs.List.{range_with_len}
use Rattle.hop_base.specs.Run.{ScriptLines, no_lines}
use Rattle.hop_base.specs.declared.part.Part.{Part}
use Rattle.hop_event.specs.declared.declared.Declared.{Declared}
use Rattle.hop_event.specs.declared.event.Event.{Event}
use Rattle.hop_event.specs.declared.event.Event.TheVariants.{Arrive, Ignore, Won, Revoked, Restart, Finish}
use Rattle.hop_event.specs.declared.event.Via.TheVariants.{Lane, Late, Pull}
use Rattle.hop_machine.specs.declared.words.Who.{Who}
use Rattle.hop_machine.specs.declared.words.Who.TheVariants.{Mapper, Reducer}
use Rattle.hop_machine.specs.step.Steps.{Setup}
use Rattle.hop_machine.specs.actors.ReducerTurns.{Writing}
use Rattle.hop_machine.specs.play.Play.{Order, TurnOf, Over, NoneLeft, Machine}
use Rattle.hop_machine.specs.play.FirstState.{Plays}

-- a run: what it fixes, whether there is backup, and its turn list
pub record SmallRun : Type 0 where
  pub setup : Setup
  pub backup : Bool
  pub turns : List Order

-- The play of the run ends with this history of reducer 0, in the order of its trace, with so many attempts begun of each split,
-- and with these cuts put.
pub record GivesTrace (x : SmallRun) (events : List Event) (begun : List ℕ) (snapshots : List Writing) : Type 0 where
  pub end : Machine
  pub plays : Plays x.setup x.backup x.turns (Over, end)
  pub trace : reverse (end.shared.histories 0).events ≡ events
  pub begun_are : map end.shared.words.drawn (range_with_len 0 (length x.setup.lens)) ≡ begun
  pub snapshots_are : end.actors.writer.writings ≡ snapshots

-- The play ends where the last attempt of the split was spent.
pub record EndsSpent (x : SmallRun) (split : ℕ) : Type 0 where
  pub end : Machine
  pub plays : Plays x.setup x.backup x.turns (NoneLeft split, end)

-- # How the runs are written down

-- one worker and one reducer, one record a spill, four attempts, and lanes of two messages
abbrev pub small : List ℕ → ScriptLines → List ℕ → Setup
small lens script marks = record {
  workers = 1;
  reducers = 1;
  attempts = 4;
  capacity = 2;
  script = script;
  lens = lens;
  spill = 1;
  tentative = true;
  marks = marks;
}

-- so many turns of the actor, and then more
abbrev pub times : ℕ → Who → List Order → List Order
times zero who later = later
times (suc n) who later = TurnOf who ∷ times n who later

-- a range of an attempt
abbrev pub range : ℕ → ℕ → ℕ → ℕ → Part
range i a from to = record { split = i; attempt = a; from = from; to = to }

-- reducer 0's cut of a mark, that was put
abbrev pub snapshot : ℕ → ℕ → List (Option Declared) → Writing
snapshot mark progress declared = record { reducer = 0; cut = record { mark = mark; progress = progress; declared = declared }; put = true }

-- so many records of an attempt that is not committed
abbrev pub tentative : ℕ → ℕ → Option Declared
tentative a n = Some (record { attempt = a; records = n; committed = false })

-- so many records of an attempt that is committed
abbrev pub committed : ℕ → ℕ → Option Declared
committed a n = Some (record { attempt = a; records = n; committed = true })

-- # The runs

-- Two splits of two records; the turn list ends when the first split's records have arrived.
abbrev pub half_a_file : SmallRun
half_a_file = record { setup = small (2 ∷ 2 ∷ []) no_lines (5000 ∷ []); backup = false; turns = times 3 (Mapper 0) (times 2 (Reducer 0) []) }

-- Its trace.
abbrev pub half_a_file_traced : List Event
half_a_file_traced =
    Arrive (range 0 0 0 1) (Lane 0)
    ∷ Arrive (range 0 0 1 2) (Lane 0)
    ∷ Won 0 0
    ∷ Arrive (range 1 0 0 1) (Late 0)
    ∷ Arrive (range 1 0 1 2) (Late 0)
    ∷ Won 1 0
    ∷ Finish
    ∷ []

-- Attempt 0 of split 0 fails after its first record.
abbrev pub failing_once : ScriptLines
failing_once = record no_lines { fails = record { split = 0; attempt = 0; at = 1 } ∷ [] }

-- Turns in which the failure and the retry are seen before settling.
abbrev pub failing_turns : List Order
failing_turns =
    times 2 (Mapper 0) (times 1 (Reducer 0) (times 1 (Mapper 0) (times 1 (Reducer 0) (times 3 (Mapper 0) (times 2 (Reducer 0)
    (times 1 (Mapper 0) (times 1 (Reducer 0) (times 3 (Mapper 0) (times 2 (Reducer 0) (times 1 (Mapper 0) (times 1 (Reducer 0) [])))))))))))

-- The run of it.
abbrev pub a_failed_attempt : SmallRun
a_failed_attempt = record { setup = small (2 ∷ 2 ∷ []) failing_once (2500 ∷ []); backup = false; turns = failing_turns }

-- Its trace.
abbrev pub a_failed_attempt_traced : List Event
a_failed_attempt_traced =
    Arrive (range 0 0 0 1) (Lane 0)
    ∷ Revoked 0 0
    ∷ Arrive (range 0 1 0 1) (Lane 0)
    ∷ Arrive (range 0 1 1 2) (Lane 0)
    ∷ Won 0 1
    ∷ Arrive (range 1 0 0 1) (Lane 0)
    ∷ Arrive (range 1 0 1 2) (Lane 0)
    ∷ Won 1 0
    ∷ Finish
    ∷ []

-- The same where tentative data isn't wanted.
abbrev pub a_failed_attempt_committed : SmallRun
a_failed_attempt_committed = record a_failed_attempt { setup = record (small (2 ∷ 2 ∷ []) failing_once (2500 ∷ [])) { tentative = false } }

-- Reducer 0 restarts after its second arrival.
abbrev pub a_restart : SmallRun
a_restart = record {
  setup = small (3 ∷ []) (record no_lines { restarts = record { partition = 0; arrivals = 2 } ∷ [] }) (6000 ∷ []);
  backup = false;
  turns = times 3 (Mapper 0) (times 2 (Reducer 0) (times 1 (Mapper 0) (times 2 (Reducer 0) [])));
}

-- Its trace.
abbrev pub a_restart_traced : List Event
a_restart_traced =
    Arrive (range 0 0 0 1) (Lane 0)
    ∷ Arrive (range 0 0 1 2) (Lane 0)
    ∷ Restart
    ∷ Ignore (range 0 0 2 3) (Lane 0) 0
    ∷ Won 0 0
    ∷ Arrive (range 0 0 0 3) Pull
    ∷ Finish
    ∷ []

-- The attempt fails after its last record and before its commit; all is done while settling.
abbrev pub a_late_failure : SmallRun
a_late_failure = record { setup = small (2 ∷ []) (record no_lines { fails = record { split = 0; attempt = 0; at = 2 } ∷ [] }) []; backup = false; turns = [] }

-- Its trace.
abbrev pub a_late_failure_traced : List Event
a_late_failure_traced =
    Arrive (range 0 0 0 1) (Late 0)
    ∷ Arrive (range 0 0 1 2) (Late 0)
    ∷ Revoked 0 0
    ∷ Arrive (range 0 1 0 1) (Late 0)
    ∷ Arrive (range 0 1 1 2) (Late 0)
    ∷ Won 0 1
    ∷ Finish
    ∷ []

-- A lane with room for one message: ranges that wait behind the ready one are joined.
abbrev pub a_full_lane : SmallRun
a_full_lane = record { setup = record (small (4 ∷ []) no_lines []) { capacity = 1 }; backup = false; turns = times 6 (Mapper 0) [] }

-- Its trace.
abbrev pub a_full_lane_traced : List Event
a_full_lane_traced = Arrive (range 0 0 0 1) (Late 0) ∷ Arrive (range 0 0 1 2) (Late 0) ∷ Arrive (range 0 0 2 4) (Late 0) ∷ Won 0 0 ∷ Finish ∷ []

-- Two workers with backup run the same split; the second commit loses.
abbrev pub a_backup : SmallRun
a_backup = record {
  setup = record (small (2 ∷ []) no_lines []) { workers = 2; spill = 2 };
  backup = true;
  turns = times 1 (Mapper 0) (times 1 (Mapper 1) (times 1 (Mapper 0) (times 1 (Mapper 1) (times 1 (Mapper 0) (times 1 (Mapper 1) (times 4 (Reducer 0) []))))));
}

-- Its trace.
abbrev pub a_backup_traced : List Event
a_backup_traced = Arrive (range 0 0 0 2) (Lane 0) ∷ Arrive (range 0 1 0 2) (Lane 1) ∷ Won 0 0 ∷ Revoked 0 1 ∷ Finish ∷ []

-- Attempt 0 of split 0 fails at once, and there is no other.
abbrev pub failing_at_once : ScriptLines
failing_at_once = record no_lines { fails = record { split = 0; attempt = 0; at = 0 } ∷ [] }

-- The run of it with one attempt a split.
abbrev pub a_doomed_split : SmallRun
a_doomed_split = record { setup = record (small (2 ∷ 2 ∷ []) failing_at_once []) { attempts = 1 }; backup = false; turns = [] }

-- With one attempt more.
abbrev pub a_spared_split : SmallRun
a_spared_split = record { setup = record (small (2 ∷ 2 ∷ []) failing_at_once []) { attempts = 2 }; backup = false; turns = [] }

-- Its trace.
abbrev pub a_spared_split_traced : List Event
a_spared_split_traced =
    Revoked 0 0
    ∷ Arrive (range 0 1 0 1) (Late 0)
    ∷ Arrive (range 0 1 1 2) (Late 0)
    ∷ Won 0 1
    ∷ Arrive (range 1 0 0 1) (Late 0)
    ∷ Arrive (range 1 0 1 2) (Late 0)
    ∷ Won 1 0
    ∷ Finish
    ∷ []
