-- Programs that record and send only what is of the splits, where what they find is.
use Rattle.std.proofs.Common.{◌≡◌, ℕ, ◌≤◌, ◌<◌, Bool, true, false, cond, List, [], ◌∷◌, ◌++◌, reverse, refl, sym, ◌∙◌, subst, Option, Some, None, slice_index}
use Rattle.hop_machine.specs.declared.words.Who.{Who}
use Rattle.hop_machine.specs.declared.words.Message.{Message}
use Rattle.hop_machine.specs.declared.words.Message.TheVariants.{Range, Notice}
use Rattle.hop_machine.specs.step.Steps.{Step, Found, Send, Take, NextSplit, Draw, Commit, Revoke, AskWinner, AskRevoked, Join, TryHold, Hold, Record, GiveBack, SendCut, TakeCut, Risk, Value, Kept, Sent, Did, Deeds, Setup, CutSaid, Prog, Done, Then, and_then, Steps, Runs, after, sending, holding, rules_of, TellsWinner, IsKnown, Verdicts}
use Rattle.hop_machine.specs.step.Pushing.{IsWorkersList, IsPushed, MayPush}
use Rattle.hop_machine.proofs.reducer.Recording.{at1-cases, reversed}
use Rattle.hop_ending.specs.Reached.{IsReached}
use Rattle.hop_ending.proofs.FineHistories.{IsFine, AllFine}
use Rattle.hop_ending.proofs.Reaching.{IsWithinCut, AreWithin, within_last, last_reached, first_within}

-- what the ends of the run's reducers did: the histories and the cuts that were sent are of the splits
pub record FineAt (s : Setup) (d : Did) (p : ℕ) : Type 0 where
  pub history : AllFine s (d.keeps p).events
  pub sent : AreWithin s (d.cut_outs p).sent

abbrev pub AreFine : Setup → Did → Type 0
AreFine s d = (p : ℕ) → p < s.reducers → FineAt s d p

module _ (s : Setup) where
  -- what a step records or sends is so
  abbrev pub FineStep : Step → Type 0
  FineStep (Record p e) = IsFine s e
  FineStep (SendCut p c) = IsWithinCut s c
  FineStep (Send w p m) = Unit {0}
  FineStep (Take w p) = Unit {0}
  FineStep (NextSplit w) = Unit {0}
  FineStep (Draw w i) = Unit {0}
  FineStep (Commit w i a) = Unit {0}
  FineStep (Revoke w i a) = Unit {0}
  FineStep (AskWinner who i) = Unit {0}
  FineStep (AskRevoked who i a) = Unit {0}
  FineStep (Join p i a) = Unit {0}
  FineStep (TryHold p) = Unit {0}
  FineStep (Hold p) = Unit {0}
  FineStep (GiveBack p due) = Unit {0}
  FineStep (TakeCut p) = Unit {0}
  FineStep Risk = Unit {0}

  -- a range of a split
  abbrev pub FineMessage : Message → Type 0
  FineMessage (Range part) = (part.to ≤ slice_index s.lens part.split) × (part.attempt < s.attempts)
  FineMessage (Notice i a) = Unit {0}

  -- and what it finds
  abbrev pub FineFound : (step : Step) → Found step → Type 0
  FineFound (Take w p) None = Unit {0}
  FineFound (Take w p) (Some m) = FineMessage m
  FineFound (AskWinner who i) None = Unit {0}
  FineFound (AskWinner who i) (Some a) = a < s.attempts
  FineFound (TryHold p) None = Unit {0}
  FineFound (TryHold p) (Some v) = p < s.reducers → AllFine s v.events
  FineFound (Hold p) v = p < s.reducers → AllFine s v.events
  FineFound (TakeCut p) None = Unit {0}
  FineFound (TakeCut p) (Some c) = p < s.reducers → IsReached s c
  FineFound (Record p e) o = Unit {0}
  FineFound (SendCut p c) o = Unit {0}
  FineFound (Send w p m) o = Unit {0}
  FineFound (NextSplit w) o = Unit {0}
  FineFound (Draw w i) o = Unit {0}
  FineFound (Commit w i a) o = Unit {0}
  FineFound (Revoke w i a) o = Unit {0}
  FineFound (AskRevoked who i a) o = Unit {0}
  FineFound (Join p i a) o = Unit {0}
  FineFound (GiveBack p due) o = Unit {0}
  FineFound Risk o = Unit {0}

  -- each step of the program is so where what was found is, and each answer is one of these
  abbrev pub Fits : {A : Type 0} → (A → Type 0) → Prog A → Type 0
  Fits P (Done x) = P x
  Fits P (Then step k) = FineStep step × ((o : Found step) → FineFound step o → Fits P (k o))

  pub fits_then : {A B : Type 0} (P : A → Type 0) (Q : B → Type 0) (k : Prog A) (f : A → Prog B) → Fits P k → ((x : A) → P x → Fits Q (f x)) → Fits Q (and_then k f)
  fits_then P Q (Done x) f h g = g x h
  fits_then P Q (Then step k) f h g = (h.0, λ o fine. fits_then P Q (k o) f (h.1 o fine) g)

  pub fits_if : {A : Type 0} (P : A → Type 0) (t : Bool) (x y : Prog A) → (t ≡ true → Fits P x) → (t ≡ false → Fits P y) → Fits P (cond t x y)
  fits_if P true x y h g = h refl
  fits_if P false x y h g = g refl

  -- # What a step leaves

  held_same : (o : Option Value) (k : Kept) → AllFine s k.events → AllFine s (holding o k).events
  held_same None k h = h
  held_same (Some v) k h = h

  sent_more : (c : CutSaid) (ok : Bool) (x : Sent CutSaid) → IsWithinCut s c → AreWithin s x.sent → AreWithin s (sending c ok x).sent
  sent_more c true x w h = within_last s x.sent c h w
  sent_more c false x w h = h

  -- the history of a reducer under its lock changes to one that is fine too
  keeps_changed : (d : Did) (q : ℕ) (k : Kept) → (AllFine s (d.keeps q).events → AllFine s k.events) → AreFine s d → AreFine s (record d { keeps = Rattle.hop_machine.specs.step.Steps.at1 d.keeps q k })
  keeps_changed d q k f h p l = record {
    history = at1-cases (λ (x : Kept). AllFine s x.events) d.keeps q p k (λ e. f (subst (λ (n : ℕ). AllFine s (d.keeps n).events) e (h p l).history)) (λ n. (h p l).history);
    sent = (h p l).sent;
  }

  after_fine : (step : Step) (o : Found step) (d : Did) → FineStep step → AreFine s d → AreFine s (after step o d)
  after_fine (TryHold q) o d f h = keeps_changed d q (holding o (d.keeps q)) (held_same o (d.keeps q)) h
  after_fine (Hold q) o d f h = keeps_changed d q (record (d.keeps q) { held = true }) (λ k. k) h
  after_fine (Record q e) o d f h = keeps_changed d q (record (d.keeps q) { events = e ∷ (d.keeps q).events }) (λ k. (f, k)) h
  after_fine (GiveBack q due) o d f h = keeps_changed d q (record (d.keeps q) { due = due; held = false }) (λ k. k) h
  after_fine (SendCut q c) o d f h = λ p l. record {
    history = (h p l).history;
    sent = at1-cases (λ (x : Sent CutSaid). AreWithin s x.sent) d.cut_outs q p (sending c o (d.cut_outs q))
        (λ e. sent_more c o (d.cut_outs q) f (subst (λ (n : ℕ). AreWithin s (d.cut_outs n).sent) e (h p l).sent)) (λ n. (h p l).sent);
  }
  after_fine (Send w p m) o d f h = λ p l. record { history = (h p l).history; sent = (h p l).sent }
  after_fine (Take w p) o d f h = λ p l. record { history = (h p l).history; sent = (h p l).sent }
  after_fine (NextSplit w) o d f h = λ p l. record { history = (h p l).history; sent = (h p l).sent }
  after_fine (Draw w i) o d f h = λ p l. record { history = (h p l).history; sent = (h p l).sent }
  after_fine (Commit w i a) o d f h = λ p l. record { history = (h p l).history; sent = (h p l).sent }
  after_fine (Revoke w i a) o d f h = λ p l. record { history = (h p l).history; sent = (h p l).sent }
  after_fine (AskWinner who i) o d f h = h
  after_fine (AskRevoked who i a) o d f h = h
  after_fine (Join p i a) o d f h = h
  after_fine (TakeCut p) o d f h = λ p l. record { history = (h p l).history; sent = (h p l).sent }
  after_fine Risk o d f h = h

  -- # What a step finds

  message_fine : (m : Message) (earlier : List Message) → MayPush (rules_of s) earlier m → FineMessage m
  message_fine (Range part) earlier h = (h.range.within, h.range.attempt.attempt)
  message_fine (Notice i a) earlier h = tt

  taken_fine : (t : Setup) (m : Message) (taken : List Message) → t ≡ s → IsWorkersList (rules_of t) (taken ++ m ∷ []) → FineMessage m
  taken_fine t m taken e h = message_fine m (reverse taken) (subst (λ (k : Setup × List Message). IsPushed (rules_of k.0) k.1) (λ i. (e i, reversed taken m i)) h).0

  winner_found : (i : ℕ) (o : Option ℕ) (who : Who) (t : Setup) (x y : Verdicts) → t ≡ s → TellsWinner i o x y → IsKnown t y → FineFound (AskWinner who i) o
  winner_found i None who t x y e h k = tt
  winner_found i (Some a) who t x y e h k = subst (λ (z : Setup). a < z.attempts) e (k.won i a h.0).1

  found_fine : (step : Step) (o : Found step) (a b : Deeds) → a.setup ≡ s → Steps true step o a b → AreFine s a.did → FineFound step o
  found_fine (Take w p) None a b e st h = tt
  found_fine (Take w p) (Some m) a b e st h = taken_fine a.setup m (a.did.ins w p).taken e st.tells.1
  found_fine (AskWinner who i) o a b e st h = winner_found i o who a.setup (a.told.knows who) (b.told.knows who) e st.tells.0 st.tells.1
  found_fine (TryHold p) None a b e st h = tt
  found_fine (TryHold p) (Some v) a b e st h = λ l. subst (AllFine s) (sym st.tells.events) (h p l).history
  found_fine (Hold p) v a b e st h = λ l. subst (AllFine s) (sym st.tells.events) (h p l).history
  found_fine (TakeCut p) None a b e st h = tt
  found_fine (TakeCut p) (Some c) a b e st h = λ l.
      last_reached s (a.did.cut_ins p).taken c (subst (λ (k : Setup). Rattle.hop_machine.specs.step.CutLane.AreCuts k ((a.did.cut_ins p).taken ++ c ∷ [])) e st.tells.1)
      (first_within s (Rattle.std.specs.Prelude.length (a.did.cut_ins p).taken) (a.did.cut_outs p).sent c (h p l).sent (st.finds refl refl).0)
  found_fine (Record p ev) o a b e st h = tt
  found_fine (SendCut p c) o a b e st h = tt
  found_fine (Send w p m) o a b e st h = tt
  found_fine (NextSplit w) o a b e st h = tt
  found_fine (Draw w i) o a b e st h = tt
  found_fine (Commit w i n) o a b e st h = tt
  found_fine (Revoke w i n) o a b e st h = tt
  found_fine (AskRevoked who i n) o a b e st h = tt
  found_fine (Join p i n) o a b e st h = tt
  found_fine (GiveBack p due) o a b e st h = tt
  found_fine Risk o a b e st h = tt

  -- what a program of such steps leaves over exact ends
  pub runs_fit : {A : Type 0} (P : A → Type 0) (k : Prog A) (a b : Deeds) (r : A) → Fits P k → Runs true k a r b → a.setup ≡ s → AreFine s a.did → P r × AreFine s b.did
  runs_fit P (Done x) a b r f run e h = (subst P (sym run.0) f, subst (λ (d : Deeds). AreFine s d.did) (sym run.1) h)
  runs_fit P (Then step k) a b r f run e h =
      runs_fit P (k run.0) run.1 b r (f.1 run.0 (found_fine step run.0 a run.1 e run.2 h)) run.3 (run.2.setup ∙ e) (subst (AreFine s) (sym run.2.did) (after_fine step run.0 a.did f.0 h))
