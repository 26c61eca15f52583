-- Small plays, computed by the checker.
use Rattle.std.proofs.Common.{◌≡◌, ℕ, zero, suc, List, [], ◌∷◌, Option, Some, None, refl, sym}
use Rattle.hop_event.specs.Coverage.{leader}
use Rattle.hop_machine.specs.play.Play.{Place, Listed, Machine, next, Follows}
use Rattle.hop_machine.specs.play.FirstState.{first_state, Plays}
use Rattle.hop_machine.specs.play.Worked.{SmallRun, GivesTrace, EndsSpent, snapshot, tentative, committed, half_a_file, half_a_file_traced, a_failed_attempt, a_failed_attempt_traced, a_failed_attempt_committed, a_restart, a_restart_traced, a_late_failure, a_late_failure_traced, a_full_lane, a_full_lane_traced, a_backup, a_backup_traced, a_doomed_split, a_spared_split, a_spared_split_traced}

abbrev At : Type 0
At = Place × Machine

-- the states that follow, and the last of them, after at most so many steps
abbrev trail_by : (At → List At) → Option At → List At
trail_by later None = []
trail_by later (Some b) = b ∷ later b

abbrev last_by : (At → At) → Option At → At → At
last_by later None a = a
last_by later (Some b) a = later b

abbrev trail : ℕ → At → List At
trail zero a = []
trail (suc n) a = trail_by (λ b. trail n b) (next a.0 a.1)

abbrev last : ℕ → At → At
last zero a = a
last (suc n) a = last_by (λ b. last n b) (next a.0 a.1) a

follows_trail : (n : ℕ) (a : At) → Follows a (trail n a) (last n a)
follows_trail zero a = refl
follows_trail (suc n) a = of (next a.0 a.1) refl (λ b. follows_trail n b)
  where
    of : (o : Option At) → next a.0 a.1 ≡ o → ((b : At) → Follows b (trail n b) (last n b)) → Follows a (trail_by (λ b. trail n b) o) (last_by (λ b. last n b) o a)
    of None e rec = refl
    of (Some b) e rec = (e, rec b)

abbrev begins : SmallRun → At
begins x = (Listed x.turns, first_state x.setup x.backup)

-- the play of the run, where so many steps end it
computed : (n : ℕ) (x : SmallRun) (end : At) → last n (begins x) ≡ end → next end.0 end.1 ≡ None → Plays x.setup x.backup x.turns end
computed n x end is over = let P : At → Type 0 = λ z. Follows (begins x) (trail n (begins x)) z in record { states = trail n (begins x); follow = Rattle.std.proofs.Common.subst P is (follows_trail n (begins x)); over = over }

abbrev ends : SmallRun → Machine
ends x = (last 100 (begins x)).1

pub half_a_file-traced : GivesTrace half_a_file half_a_file_traced (1 ∷ 1 ∷ []) (snapshot 5000 5000 (tentative 0 2 ∷ None ∷ []) ∷ [])
unfolding leader
half_a_file-traced = record { end = ends half_a_file; plays = computed 100 half_a_file _ refl refl; trace = refl; begun_are = refl; snapshots_are = refl }

pub a_failed_attempt-traced : GivesTrace a_failed_attempt a_failed_attempt_traced (2 ∷ 1 ∷ []) (snapshot 2500 2500 (tentative 0 1 ∷ None ∷ []) ∷ [])
unfolding leader
a_failed_attempt-traced = record { end = ends a_failed_attempt; plays = computed 100 a_failed_attempt _ refl refl; trace = refl; begun_are = refl; snapshots_are = refl }

pub a_failed_attempt_committed-traced : GivesTrace a_failed_attempt_committed a_failed_attempt_traced (2 ∷ 1 ∷ []) (snapshot 2500 5000 (committed 1 2 ∷ None ∷ []) ∷ [])
unfolding leader
a_failed_attempt_committed-traced = record { end = ends a_failed_attempt_committed; plays = computed 100 a_failed_attempt_committed _ refl refl; trace = refl; begun_are = refl; snapshots_are = refl }

pub a_restart-traced : GivesTrace a_restart a_restart_traced (1 ∷ []) (snapshot 6000 6666 (tentative 0 2 ∷ []) ∷ [])
unfolding leader
a_restart-traced = record { end = ends a_restart; plays = computed 100 a_restart _ refl refl; trace = refl; begun_are = refl; snapshots_are = refl }

pub a_late_failure-traced : GivesTrace a_late_failure a_late_failure_traced (2 ∷ []) []
unfolding leader
a_late_failure-traced = record { end = ends a_late_failure; plays = computed 100 a_late_failure _ refl refl; trace = refl; begun_are = refl; snapshots_are = refl }

pub a_full_lane-traced : GivesTrace a_full_lane a_full_lane_traced (1 ∷ []) []
unfolding leader
a_full_lane-traced = record { end = ends a_full_lane; plays = computed 100 a_full_lane _ refl refl; trace = refl; begun_are = refl; snapshots_are = refl }

pub a_backup-traced : GivesTrace a_backup a_backup_traced (2 ∷ []) []
unfolding leader
a_backup-traced = record { end = ends a_backup; plays = computed 100 a_backup _ refl refl; trace = refl; begun_are = refl; snapshots_are = refl }

pub a_doomed_split-spent : EndsSpent a_doomed_split 0
unfolding leader
a_doomed_split-spent = record { end = ends a_doomed_split; plays = computed 100 a_doomed_split _ refl refl }

pub a_spared_split-traced : GivesTrace a_spared_split a_spared_split_traced (2 ∷ 1 ∷ []) []
unfolding leader
a_spared_split-traced = record { end = ends a_spared_split; plays = computed 100 a_spared_split _ refl refl; trace = refl; begun_are = refl; snapshots_are = refl }
