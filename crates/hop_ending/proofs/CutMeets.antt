-- Over any ends, where the ends of a cut lane were told of each other before the writer's last turns and after them, it holds nothing.
use Rattle.std.proofs.Common.{◌≡◌, ℕ, ◌<◌, Bool, List, [], ◌∷◌, ◌++◌, append-nil, length, length-append, refl, sym, ap, ◌∙◌, subst, inr, None, Some, arith}
use Rattle.hop_machine.specs.declared.words.Who.TheVariants as whose
use Rattle.hop_machine.specs.declared.words.Turn.{Turn}
use Rattle.hop_machine.specs.declared.words.Turn.TheVariants.{Worked, Idle, Ended, Spent, Stopped}
use Rattle.hop_machine.specs.step.Steps.{Did, Setup, Sent, CutSaid, Begins}
use Rattle.hop_machine.specs.step.Setup.{splits_of}
use Rattle.hop_machine.specs.step.Owners.{Acted}
use Rattle.hop_machine.specs.actors.ReducerTurns.{Writer, writer_turn}
use Rattle.hop_machine.specs.play.Play.{Place, Opening, Listed, CatchingUp, Passing, Mapping, Draining, Emptying, Pulling, Writing, Over, NoneLeft, Halted, World, Next, Learns, Went, once_idle, due_at}
use Rattle.hop_machine.specs.settling.Meeting.{CutMet}
use Rattle.hop_machine.proofs.step.Owners.{Runs-acted}
use Rattle.hop_machine.proofs.step.Told.{begins_self, begins_both}
use Rattle.hop_machine.proofs.actors.OwnTurns.{own_writer}
use Rattle.hop_machine.proofs.settling.WriterEnds.{writer-falls}
use Rattle.hop_machine.proofs.play.Plays.{went_keeps, went_same}
use Rattle.hop_ending.specs.Cuts.{HasPut}
use Rattle.hop_ending.proofs.CutPlaces.{next_writer}
use Rattle.hop_ending.proofs.CutPuts.{PutsAt, still_puts, turns_put}
use Rattle.hop_ending.proofs.CutEnds.{writing_turn, had_put, idle_ends}

-- # Lists that begin with each other

begins_back : {A : Type 0} (xs ys : List A) → Begins xs ys → Begins ys xs → xs ≡ ys
begins_back xs ys b c = of b.0 b.1
  where
    of : (more : List _) → ys ≡ xs ++ more → xs ≡ ys
    of [] l = sym (l ∙ append-nil xs)
    of (d ∷ more) l =
        let f = ap length l ∙ length-append xs (d ∷ more) in
        let g = ap length c.1 ∙ length-append ys c.0 in
        absurd (omega (arith, f, g))

-- # The places of the writer's last turns

-- it is the writer's place, or the run ended there
abbrev IsLast : Place → Type 0
IsLast Writing = Unit {0}
IsLast Over = Unit {0}
IsLast Halted = Unit {0}
IsLast (Opening p list) = ⊥
IsLast (Listed list) = ⊥
IsLast (CatchingUp p list) = ⊥
IsLast (Passing ended) = ⊥
IsLast (Mapping w ended) = ⊥
IsLast (Draining p ended) = ⊥
IsLast (Emptying p) = ⊥
IsLast (Pulling p i) = ⊥
IsLast (NoneLeft i) = ⊥

-- a step is made at one of them alone
module _ (e : Bool) (a b : Place × World) (n : Next e a b) where
  goes_from : (place : Place) → a.0 ≡ place → IsLast place → a.0 ≡ Writing
  goes_from Writing at l = at
  goes_from Over at l = absurd (let due : None ≡ Some n.program = (λ i. due_at (record { splits = splits_of n.told.setup; limit = n.told.setup.attempts }) (sym at i) a.1.actors) ∙ n.is_due in cc)
  goes_from Halted at l = absurd (let due : None ≡ Some n.program = (λ i. due_at (record { splits = splits_of n.told.setup; limit = n.told.setup.attempts }) (sym at i) a.1.actors) ∙ n.is_due in cc)
  goes_from (Opening p list) at l = absurd l
  goes_from (Listed list) at l = absurd l
  goes_from (CatchingUp p list) at l = absurd l
  goes_from (Passing ended) at l = absurd l
  goes_from (Mapping w ended) at l = absurd l
  goes_from (Draining p ended) at l = absurd l
  goes_from (Emptying p) at l = absurd l
  goes_from (Pulling p i) at l = absurd l
  goes_from (NoneLeft i) at l = absurd l

once_last : (t : Turn) → IsLast (once_idle t Over Writing)
once_last Idle = tt
once_last Worked = tt
once_last Ended = tt
once_last (Spent i) = tt
once_last Stopped = tt

-- # Along the writer's last turns

-- this was sent to the lane and no more, the writer was told so, and at the end it took all of it
record Finishes (s : Setup) (q : ℕ) (cuts : List CutSaid) (z : Place × World) : Type 0 where
  pub puts : PutsAt s z
  pub setup : z.1.deeds.setup ≡ s
  pub last : IsLast z.0
  pub sent : (z.1.deeds.did.cut_outs q).sent ≡ cuts
  pub told : Begins cuts (z.1.deeds.told.cut_sent q)
  pub took : z.0 ≡ Over → Begins cuts (z.1.deeds.did.cut_ins q).taken

module _ (e : Bool) (s : Setup) (q : ℕ) (lq : q < s.reducers) (cuts : List CutSaid) where
  still_finishes : (a b : Place × World) → b.0 ≡ a.0 → b.1.actors ≡ a.1.actors → Learns e a.1.deeds b.1.deeds → Finishes s q cuts a → Finishes s q cuts b
  still_finishes a b p x l h = record {
    puts = still_puts s a b p x h.puts;
    setup = l.setup ∙ h.setup;
    last = subst IsLast (sym p) h.last;
    sent = ap (λ (d : Did). (d.cut_outs q).sent) l.did ∙ h.sent;
    told = begins_both cuts (a.1.deeds.told.cut_sent q) (b.1.deeds.told.cut_sent q) h.told (l.grows.cut_sent q);
    took = λ o. subst (λ (d : Did). Begins cuts (d.cut_ins q).taken) (sym l.did) (h.took (sym p ∙ o));
  }

  next_finishes : (a b : Place × World) → Next e a b → Finishes s q cuts a → Finishes s q cuts b
  next_finishes a b n h =
      let at = goes_from e a b n a.0 refl h.last in
      let x = a.1.actors.writer in
      let t = writing_turn e a b n at in
      let put = had_put e a b n s at h.puts in
      let set : n.told.setup ≡ s = n.learns.setup ∙ h.setup in
      let acted : Acted whose.Writer n.told b.1.deeds = Runs-acted whose.Writer e (writer_turn x) n.told b.1.deeds t.y (own_writer x) t.runs in
      let told : Begins cuts (n.told.told.cut_sent q) = begins_both cuts (a.1.deeds.told.cut_sent q) (n.told.told.cut_sent q) h.told (n.learns.grows.cut_sent q) in
      record {
        puts = next_writer (λ (k : Writer). HasPut k s) (turns_put s) e a b n h.puts;
        setup = acted.only.setup ∙ set;
        last = subst IsLast (sym t.goes) (once_last t.y.1);
        sent = ap (λ (k : Sent CutSaid). k.sent) (acted.only.cut_outs q (λ k. cc)) ∙ ap (λ (d : Did). (d.cut_outs q).sent) n.learns.did ∙ h.sent;
        told = begins_both cuts (n.told.told.cut_sent q) (b.1.deeds.told.cut_sent q) told (acted.grows.cut_sent q);
        took = λ o. begins_both cuts (n.told.told.cut_sent q) (b.1.deeds.did.cut_ins q).taken told
            ((writer-falls e x n.told b.1.deeds t.y (record { setup = put.setup ∙ sym set; next = subst (λ (k : Setup). x.next < k.reducers) (sym set) put.next }) t.runs).2
            (idle_ends t.y.1 (sym t.goes ∙ o)) q (subst (λ (k : Setup). q < k.reducers) (sym set) lq));
      }

pub met_emptied : (e : Bool) (a d : World) → HasPut a.actors.writer a.deeds.setup → Went e (Writing, a) (Over, d) → (p : ℕ) → p < d.deeds.setup.reducers → CutMet a.deeds p → CutMet d.deeds p → (d.deeds.did.cut_ins p).taken ≡ (d.deeds.did.cut_outs p).sent
met_emptied e a d put w p l before after =
    let s = a.deeds.setup in
    let same : d.deeds.setup ≡ s = went_same e (Writing, a) (Over, d) w in
    let sent = (a.deeds.did.cut_outs p).sent in
    let f = went_keeps e (Finishes s p sent) (still_finishes e s p (subst (λ (k : Setup). p < k.reducers) same l) sent) (next_finishes e s p (subst (λ (k : Setup). p < k.reducers) same l) sent) (Writing, a) (Over, d) w
    (record {
      puts = inr put;
      setup = refl;
      last = tt;
      sent = refl;
      told = subst (λ (cuts : List CutSaid). Begins sent cuts) (sym before.sent) (begins_self sent);
      took = λ o. cc;
    }) in
    sym (f.sent ∙ begins_back sent (d.deeds.did.cut_ins p).taken (f.took refl) (after.begins.0, sym f.sent ∙ after.begins.1))
