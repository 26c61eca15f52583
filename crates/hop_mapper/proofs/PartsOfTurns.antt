-- Parts of a mapper's turn run, by what their calls ran.
use Rattle.std.proofs.Common.{◌≡◌, ℕ, ◌+◌, Bool, true, false, List, refl, sym, ap, ◌∙◌, subst, if◌then◌else◌}
use Rattle.std.specs.Prelude.{Result, Ok, Err, nat_lt}
use Rattle.hop_base.specs.Meaning.{Meaning}
use Rattle.hop_base.specs.Run.{delay_of}
use Rattle.hop_base.specs.Run.{ScriptLines, RunSettings}
use Rattle.hop_vault.specs.declared.kept.Kept.{Kept}
use Rattle.hop_vault.specs.Rows.{kept_end, SameRows, AddsTo}
use Rattle.hop_vault.specs.Vaults.{VaultValue}
use Rattle.hop_machine.specs.declared.words.Message.{Message}
use Rattle.hop_machine.specs.declared.words.Message.TheVariants.{Range, Notice}
use Rattle.hop_machine.specs.declared.words.Turn.{Turn}
use Rattle.hop_machine.specs.declared.words.Turn.TheVariants.{Worked, Idle, Ended, Stopped}
use Rattle.hop_machine.specs.step.Steps.{Deeds, Steps, Runs, Prog, Done, and_then, Revoke}
use Rattle.hop_machine.specs.home.Conditions.{Safe}
use Rattle.hop_machine.specs.actors.MapperTurns.{Mapper, Lane, Lanes, flush, acts, takes_turn, open_turn, mapper_turn, counted, with_end, is_ended, each_lane, offer, on_lanes, gives_notice, unless_spent, fails, commits, spills, has_spilled, part_of, keeps}
use Rattle.hop_machine.specs.actors.MapperTurns as machine
use Rattle.hop_machine.proofs.step.Programs.{Runs-and_then, risk_steps}
use Rattle.hop_inner.proofs.Safety.{safe_after}
use Rattle.hop_press.specs.Held.{said_lanes, lanes_left}
use Rattle.hop_actors.specs.Acting.{said_turn, Maps}
use Rattle.hop_actors.specs.Counting.{Counts, TurnCause}
use Rattle.hop_mapper.specs.Faults.{turn_of}
use Rattle.hop_mapper.specs.declared.work.Running.{Running}
use Rattle.hop_mapper.specs.declared.work.Work.TheVariants as work
use Rattle.hop_mapper.specs.Mappers.{MapperValue, mapper_of, work_of, running_of}
use Rattle.hop_mapper.specs.Programs.{settles}
use Rattle.hop_mapper.proofs.TurnLaws.{safe_first, later_safe, lanes_went, lanes_stopped, same_ends, keeps_after}

-- what comes after the lanes
abbrev after_lanes : Mapper → (Mapper → Prog (Mapper × Turn)) → Lanes → Prog (Mapper × Turn)
after_lanes m k x = if x.went then k (record m { held = x.held }) else Done (record m { held = x.held }, Stopped)

module _ (records : List (List ℕ)) (script : ScriptLines) (settings : RunSettings) {V K : Type 0} (e : Bool) where
  abbrev of : MapperValue V K → Mapper
  of m = mapper_of records script settings m

  -- what goes to each lane of a mapper
  abbrev Sends : MapperValue V K → Message → Deeds → Bool → MapperValue V K → Deeds → Type 0
  Sends m msg a went n b = Runs e (each_lane (offer m.vault.worker msg) 0 (said_lanes m.held)) a (record { went = went; held = said_lanes n.held }) b

  abbrev MaySend : ℕ → MapperValue V K → Message → Deeds → Type 0
  MaySend parts m msg a = Safe parts e (each_lane (offer m.vault.worker msg) 0 (said_lanes m.held)) a

  module _ (m m1 m2 : MapperValue V K) (msg : Message) (same : m2 ≡ record m1 { held = m2.held }) (a b : Deeds) where
    -- a message went to each lane, and then it goes on
    pub sent_on : (k : Mapper → Prog (Mapper × Turn)) (d : Deeds) (r : Mapper × Turn) → Sends m1 msg a true m2 b → Runs e (k (of m2)) b r d → Runs e (on_lanes (of m1) (offer m1.vault.worker msg) k) a r d
    sent_on k d r h g = lanes_went e (of m1) (offer m1.vault.worker msg) k a b (said_lanes m2.held) d r h (subst (λ (x : MapperValue V K). Runs e (k (of x)) b r d) same g)

    -- a lane stopped
    pub sent_stopped : (k : Mapper → Prog (Mapper × Turn)) → Sends m1 msg a false m2 b → Runs e (on_lanes (of m1) (offer m1.vault.worker msg) k) a (of m2, Stopped) b
    sent_stopped k h =
        subst (λ (x : MapperValue V K). Runs e (on_lanes (of m1) (offer m1.vault.worker msg) k) a (of x, Stopped) b) (sym same) (lanes_stopped e (of m1) (offer m1.vault.worker msg) k a b (said_lanes m2.held) h)

  pub may_send : (parts : ℕ) (m1 : MapperValue V K) (msg : Message) (k : Mapper → Prog (Mapper × Turn)) (a : Deeds) → Safe parts e (on_lanes (of m1) (offer m1.vault.worker msg) k) a → MaySend parts m1 msg a
  may_send parts m1 msg k a s = safe_first parts e (each_lane (offer m1.vault.worker msg) 0 (said_lanes m1.held)) (after_lanes (of m1) k) a s

  pub sent_safe : (parts : ℕ) (m1 m2 : MapperValue V K) (msg : Message) (k : Mapper → Prog (Mapper × Turn)) (a b : Deeds) → m2 ≡ record m1 { held = m2.held } → Safe parts e (on_lanes (of m1) (offer m1.vault.worker msg) k) a → Sends m1 msg a true m2 b → Safe parts e (k (of m2)) b
  sent_safe parts m1 m2 msg k a b same s h =
      subst (λ (x : MapperValue V K). Safe parts e (k (of x)) b) (sym same)
      (safe_after parts e (each_lane (offer m1.vault.worker msg) 0 (said_lanes m1.held)) (after_lanes (of m1) k) a b (record { went = true; held = said_lanes m2.held }) s h)

  -- # A commit

  module _ (m m1 : MapperValue V K) (run : Running) (w : ℕ) (worker : w ≡ m.vault.worker) (now : m1 ≡ record m { work = work.Free }) (a mid : Deeds) (settled : Runs e (settles w (running_of run)) a tt mid) where
    abbrev notice : Message
    notice = Notice run.split run.attempt

    abbrev then_worked : Mapper → Prog (Mapper × Turn)
    then_worked y = Done (y, Worked)

    settled_here : Runs e (settles m.vault.worker (running_of run)) a tt mid
    settled_here = subst (λ (x : ℕ). Runs e (settles x (running_of run)) a tt mid) worker settled

    pub commit_safe : (parts : ℕ) → Safe parts e (commits (of m) (running_of run)) a → MaySend parts m1 notice mid
    commit_safe parts s =
        let t = safe_after parts e (settles m.vault.worker (running_of run)) (λ _. gives_notice (of (record m { work = work.Free })) run.split run.attempt then_worked) a mid tt s settled_here in
        subst (λ (x : MapperValue V K). MaySend parts x notice mid) (sym now) (may_send parts (record m { work = work.Free }) notice then_worked mid t)

    from_here : (r : Mapper × Turn) (b : Deeds) → Runs e (on_lanes (of m1) (offer m1.vault.worker notice) then_worked) mid r b → Runs e (commits (of m) (running_of run)) a r b
    from_here r b h =
        Runs-and_then e (settles m.vault.worker (running_of run)) (λ _. gives_notice (of (record m { work = work.Free })) run.split run.attempt then_worked) a mid b tt r settled_here
        (subst (λ (x : MapperValue V K). Runs e (on_lanes (of x) (offer x.vault.worker notice) then_worked) mid r b) now h)

    module _ (m2 : MapperValue V K) (same : m2 ≡ record m1 { held = m2.held }) (b : Deeds) where
      pub commit_worked : Sends m1 notice mid true m2 b → Runs e (commits (of m) (running_of run)) a (of m2, Worked) b
      commit_worked h = from_here (of m2, Worked) b (sent_on m m1 m2 notice same mid b then_worked b (of m2, Worked) h (refl, refl))

      pub commit_stopped : Sends m1 notice mid false m2 b → Runs e (commits (of m) (running_of run)) a (of m2, Stopped) b
      commit_stopped h = from_here (of m2, Stopped) b (sent_stopped m m1 m2 notice same mid b then_worked h)

      pub commit_either : {A E : Type 0} (r : Result A E) → Runs e (each_lane (offer m1.vault.worker notice) 0 (said_lanes m1.held)) mid (lanes_left r (said_lanes m2.held)) b → Runs e (commits (of m) (running_of run)) a (of m2, said_turn (turn_of r)) b
      commit_either (Ok u) h = commit_worked h
      commit_either (Err x) h = commit_stopped h

  -- # A failure

  module _ (m m1 : MapperValue V K) (run : Running) (w mask : ℕ) (worker : w ≡ m.vault.worker) (now : m1 ≡ record m { work = work.Retries run.split }) (a mid : Deeds) (step : Steps e (Revoke w run.split run.attempt) mask a mid) where
    abbrev told : Message
    told = Notice run.split run.attempt

    abbrev then_spent : Mapper → Prog (Mapper × Turn)
    then_spent y = unless_spent y run.split mask

    step_here : Steps e (Revoke m.vault.worker run.split run.attempt) mask a mid
    step_here = subst (λ (x : ℕ). Steps e (Revoke x run.split run.attempt) mask a mid) worker step

    abbrev moved_safe : (parts : ℕ) → Safe parts e (fails (of m) (running_of run)) a → Safe parts e (on_lanes (of m1) (offer m1.vault.worker told) then_spent) mid
    moved_safe parts s = subst (λ (x : MapperValue V K). Safe parts e (on_lanes (of x) (offer x.vault.worker told) then_spent) mid) (sym now) (s.1 mask mid step_here)

    pub fail_safe : (parts : ℕ) → Safe parts e (fails (of m) (running_of run)) a → MaySend parts m1 told mid
    fail_safe parts s = may_send parts m1 told then_spent mid (moved_safe parts s)

    failed_here : (r : Mapper × Turn) (b : Deeds) → Runs e (on_lanes (of m1) (offer m1.vault.worker told) then_spent) mid r b → Runs e (fails (of m) (running_of run)) a r b
    failed_here r b h = (mask, mid, step_here, subst (λ (x : MapperValue V K). Runs e (on_lanes (of x) (offer x.vault.worker told) then_spent) mid r b) now h)

    module _ (m2 : MapperValue V K) (same : m2 ≡ record m1 { held = m2.held }) (b : Deeds) where
      pub spent_safe : (parts : ℕ) → Safe parts e (fails (of m) (running_of run)) a → Sends m1 told mid true m2 b → Safe parts e (unless_spent (of m2) run.split mask) b
      spent_safe parts s h = sent_safe parts m1 m2 told then_spent mid b same (moved_safe parts s) h

      pub fail_on : Sends m1 told mid true m2 b → (d : Deeds) (r : Mapper × Turn) → Runs e (unless_spent (of m2) run.split mask) b r d → Runs e (fails (of m) (running_of run)) a r d
      fail_on h d r g = failed_here r d (sent_on m m1 m2 told same mid b then_spent d r h g)

      pub fail_stopped : Sends m1 told mid false m2 b → Runs e (fails (of m) (running_of run)) a (of m2, Stopped) b
      fail_stopped h = failed_here (of m2, Stopped) b (sent_stopped m m1 m2 told same mid b then_spent h)

  -- # A spill

  module _ (m m1 : MapperValue V K) (run : Running) (end : ℕ) (vault : VaultValue V) (kept : Kept)
      (now : m1 ≡ record m { vault = vault; work = work.Runs (record { split = run.split; attempt = run.attempt; done = end }) }) (worker : vault.worker ≡ m.vault.worker)
      (adds : AddsTo m.vault.rows vault.rows run.split run.attempt kept) (to : kept.to ≡ end) where
    spilled_is : of m1 ≡ has_spilled (of m) (running_of run) end
    spilled_is =
        ap of now
        ∙ (λ k. record (of (record m { work = work.Runs (record { split = run.split; attempt = run.attempt; done = end }) })) { number = worker k; kept = keeps_after m.vault.rows vault.rows run.split run.attempt kept adds end to k })

    abbrev part : Message
    part = Range (part_of (running_of run) end)

    abbrev has_offered : Mapper → Prog (Mapper × Turn)
    has_offered y = Done (y, Worked)

    abbrev offered : Mapper → Prog (Mapper × Turn)
    offered x = on_lanes x (offer x.number part) has_offered

    pub spill_safe : (parts : ℕ) (a : Deeds) → end ≡ machine.spill_end (of m).rules (running_of run) → Safe parts e (spills (of m) (running_of run)) a → MaySend parts m1 part a
    spill_safe parts a at s =
        let t : Safe parts e (offered (has_spilled (of m) (running_of run) end)) a = subst (λ (n : ℕ). Safe parts e (on_lanes (has_spilled (of m) (running_of run) n) (offer m.vault.worker (Range (part_of (running_of run) n))) has_offered) a) (sym at) (s.1 true a (risk_steps e true a)) in
        may_send parts m1 part has_offered a (subst (λ (x : Mapper). Safe parts e (offered x) a) (sym spilled_is) t)

    module _ (at : end ≡ machine.spill_end (of m).rules (running_of run)) (a b : Deeds) where
      spilled_here : (r : Mapper × Turn) → Runs e (offered (of m1)) a r b → Runs e (spills (of m) (running_of run)) a r b
      spilled_here r h =
          let t : Runs e (offered (has_spilled (of m) (running_of run) end)) a r b = subst (λ (x : Mapper). Runs e (offered x) a r b) spilled_is h in
          (true, a, risk_steps e true a, subst (λ (n : ℕ). Runs e (on_lanes (has_spilled (of m) (running_of run) n) (offer m.vault.worker (Range (part_of (running_of run) n))) has_offered) a r b) at t)

      module _ (m2 : MapperValue V K) (same : m2 ≡ record m1 { held = m2.held }) where
        pub spill_worked : Sends m1 part a true m2 b → Runs e (spills (of m) (running_of run)) a (of m2, Worked) b
        spill_worked h = spilled_here (of m2, Worked) (sent_on m m1 m2 part same a b has_offered b (of m2, Worked) h (refl, refl))

        pub spill_stopped : Sends m1 part a false m2 b → Runs e (spills (of m) (running_of run)) a (of m2, Stopped) b
        spill_stopped h = spilled_here (of m2, Stopped) (sent_stopped m m1 m2 part same a b has_offered h)

        pub spill_either : {A E : Type 0} (r : Result A E) → Runs e (each_lane (offer m1.vault.worker part) 0 (said_lanes m1.held)) a (lanes_left r (said_lanes m2.held)) b → Runs e (spills (of m) (running_of run)) a (of m2, said_turn (turn_of r)) b
        spill_either (Ok u) h = spill_worked h
        spill_either (Err x) h = spill_stopped h

  -- # A whole turn

  module _ (m n : MapperValue V K) (rest : n ≡ record m { vault = n.vault; held = n.held; failed = n.failed }) (rows : n.vault.rows ≡ m.vault.rows) (worker : n.vault.worker ≡ m.vault.worker) where
    -- after a flush it is as before, but for what is held
    pub flushed_is : of n ≡ record (of m) { held = said_lanes n.held }
    flushed_is = ap of rest ∙ (λ k. record (of m) { number = worker k; held = said_lanes n.held; kept = λ i a. kept_end (rows k) i a })

    abbrev then_acts : Mapper → Prog (Mapper × Turn)
    then_acts x = acts x x.work

    module _ (a b : Deeds) where
      pub act_safe : (parts : ℕ) → Safe parts e (takes_turn (of m)) a → Runs e (each_lane (flush m.vault.worker) 0 (said_lanes m.held)) a (record { went = true; held = said_lanes n.held }) b → Safe parts e (acts (of n) (work_of n.work)) b
      act_safe parts s h = subst (λ (x : Mapper). Safe parts e (then_acts x) b) (sym flushed_is) (later_safe parts e (of m) (flush m.vault.worker) then_acts a s (said_lanes n.held) b h)

      pub took_turn : (d : Deeds) (r : Mapper × Turn) → Runs e (each_lane (flush m.vault.worker) 0 (said_lanes m.held)) a (record { went = true; held = said_lanes n.held }) b → Runs e (acts (of n) (work_of n.work)) b r d → Runs e (takes_turn (of m)) a r d
      took_turn d r h g = lanes_went e (of m) (flush m.vault.worker) then_acts a b (said_lanes n.held) d r h (subst (λ (x : Mapper). Runs e (then_acts x) b r d) flushed_is g)

      pub turn_stopped : Runs e (each_lane (flush m.vault.worker) 0 (said_lanes m.held)) a (record { went = false; held = said_lanes n.held }) b → Runs e (takes_turn (of m)) a (of n, Stopped) b
      turn_stopped h = subst (λ (x : Mapper). Runs e (takes_turn (of m)) a (x, Stopped) b) (sym flushed_is) (lanes_stopped e (of m) (flush m.vault.worker) then_acts a b (said_lanes n.held) h)

  module _ (m n : MapperValue V K) (now : n ≡ record m { turns = m.turns + 1 }) where
    -- with one turn more
    pub counted_is : of n ≡ counted (of m)
    counted_is = ap of now

    pub opened_safe : (parts : ℕ) (a : Deeds) → nat_lt m.turns (delay_of script m.vault.worker) ≡ false → Safe parts e (open_turn (of m)) a → Safe parts e (takes_turn (of n)) a
    opened_safe parts a late s =
        subst (λ (x : Mapper). Safe parts e (takes_turn x) a) (sym counted_is)
        (subst (λ (t : Bool). Safe parts e (if t then Done (counted (of m), Idle) else takes_turn (counted (of m))) a) late s)

    pub opened_on : (a b : Deeds) (r : Mapper × Turn) → nat_lt m.turns (delay_of script m.vault.worker) ≡ false → Runs e (takes_turn (of n)) a r b → Runs e (open_turn (of m)) a r b
    opened_on a b r late h =
        subst (λ (t : Bool). Runs e (if t then Done (counted (of m), Idle) else takes_turn (counted (of m))) a r b) (sym late) (subst (λ (x : Mapper). Runs e (takes_turn x) a r b) counted_is h)

    pub idled : (a : Deeds) → nat_lt m.turns (delay_of script m.vault.worker) ≡ true → Runs e (open_turn (of m)) a (of n, Idle) a
    idled a early = subst (λ (t : Bool). Runs e (if t then Done (counted (of m), Idle) else takes_turn (counted (of m))) a (of n, Idle) a) (sym early) ((λ k. (counted_is k, Idle)), refl)

    pub over : (a : Deeds) → m.ended ≡ true → Runs e (mapper_turn (of m)) a (of n, Ended) a
    over a ended = subst (λ (t : Bool). Runs e (if t then Done (counted (of m), Ended) else and_then (open_turn (of m)) (λ x. Done (with_end x))) a (of n, Ended) a) (sym ended) ((λ k. (counted_is k, Ended)), refl)

  pub open_safe : (parts : ℕ) (m : MapperValue V K) (a : Deeds) → m.ended ≡ false → Safe parts e (mapper_turn (of m)) a → Safe parts e (open_turn (of m)) a
  open_safe parts m a open_ s =
      safe_first parts e (open_turn (of m)) (λ x. Done (with_end x)) a (subst (λ (t : Bool). Safe parts e (if t then Done (counted (of m), Ended) else and_then (open_turn (of m)) (λ x. Done (with_end x))) a) open_ s)

  pub turned : (m mid n : MapperValue V K) (t : Turn) (failed : Bool) (a b : Deeds) → m.ended ≡ false → n ≡ record mid { ended = is_ended t; failed = failed } → Runs e (open_turn (of m)) a (of mid, t) b → Runs e (mapper_turn (of m)) a (of n, t) b
  turned m mid n t failed a b open_ now h =
      let r = Runs-and_then e (open_turn (of m)) (λ x. Done (with_end x)) a b b (of mid, t) (record (of mid) { ended = is_ended t }, t) h (refl, refl) in
      subst (λ (s : Bool). Runs e (if s then Done (counted (of m), Ended) else and_then (open_turn (of m)) (λ x. Done (with_end x))) a (of n, t) b) (sym open_)
      (subst (λ (x : MapperValue V K). Runs e (and_then (open_turn (of m)) (λ x. Done (with_end x))) a (of x, t) b) (sym now) r)

  -- the spill isn't kept
  pub unspilled : (m m1 : MapperValue V K) (run : Running) (vault : VaultValue V) (a : Deeds) → m1 ≡ record m { vault = vault } → vault.worker ≡ m.vault.worker → SameRows m.vault.rows vault.rows → Runs e (spills (of m) (running_of run)) a (of m1, Stopped) a
  unspilled m m1 run vault a now worker same =
      let is : of m1 ≡ of m = ap of now ∙ (λ k. record (of m) { number = worker k; kept = same_ends m.vault.rows vault.rows same k }) in
      (false, a, risk_steps e false a, ((λ k. (is k, Stopped)), refl))

-- it fails for want of memory alone
pub either_cause : {A E : Type 0} (job : Meaning) (records : List (List ℕ)) (script : ScriptLines) (settings : RunSettings) (r : Result A E) (m : Mapper) (a b : Counts) → b ≡ a → TurnCause job records script settings (Maps m) a b (turn_of r)
either_cause job records script settings (Ok u) m a b e = e
either_cause job records script settings (Err x) m a b e = e
