-- Where a run over exact ends gave up a split, the writer put the cuts of the histories but for those that still stand in the cut lanes.
use Rattle.std.proofs.Common.{◌≡◌, ℕ, ◌≤◌, ◌<◌, Bool, true, List, [], ◌++◌, map, refl, sym, ap, ◌∙◌, subst, inl, inr}
use Rattle.std.proofs.lemmas.List.{map-append}
use Rattle.hop_machine.specs.declared.words.Who.TheVariants as whose
use Rattle.hop_machine.specs.declared.words.Turn.{Turn}
use Rattle.hop_machine.specs.declared.words.Turn.TheVariants.{Idle, Spent}
use Rattle.hop_machine.specs.step.Steps.{CutSaid, Deeds, Did, Setup, Sent, Taken}
use Rattle.hop_machine.specs.step.Owners.{Acted}
use Rattle.hop_machine.specs.actors.MapperTurns.{mapper_turn}
use Rattle.hop_machine.specs.home.Said.{history_of}
use Rattle.hop_machine.specs.home.ReducerHome.{cuts_of, cuts_from}
use Rattle.hop_machine.specs.play.Play.{Actors, Order, Opening, NoneLeft, World, machine, Went}
use Rattle.hop_machine.specs.run.AllHome.{Ready, IsStart}
use Rattle.hop_machine.proofs.step.Owners.{Runs-acted}
use Rattle.hop_machine.proofs.actors.OwnTurns.{own_mapper}
use Rattle.hop_machine.proofs.play.Plays.{went_same}
use Rattle.hop_machine.proofs.run.Turns.{DidMapper, by_mapper-run}
use Rattle.hop_machine.proofs.run.Starting.{start_at_home}
use Rattle.hop_ending.specs.Cuts.{put_of, writings_of, HasPut}
use Rattle.hop_ending.proofs.Giving.{idle}
use Rattle.hop_ending.proofs.CutSteps.{left_behind}
use Rattle.hop_ending.proofs.CutPuts.{writings_are, writings_none, start_put, start_follow}
use Rattle.hop_ending.proofs.CutEnds.{went_follows}
use Rattle.hop_ending.proofs.CutHistories.{puts_on, home_sent}
use Rattle.hop_ending.proofs.SpentSteps.{went_leaves}

-- of reducer p: the cuts of its history were sent, and those that were taken are those that were written
pub record CutsLeft (x : Actors) (d : Deeds) (p : ℕ) : Type 0 where
  pub sent : (d.did.cut_outs p).sent ≡ cuts_of d.setup (history_of d p)
  pub took : (d.did.cut_ins p).taken ≡ cuts_from p x.writer.writings

abbrev AllLeft : Actors → Deeds → Type 0
AllLeft x d = (p : ℕ) → p < d.setup.reducers → CutsLeft x d p

-- where reducers and the writer did nothing it stays so
still_left : (x y : Actors) (a b : Deeds) → y.writer ≡ x.writer → b.setup ≡ a.setup → ((p : ℕ) → b.did.cut_outs p ≡ a.did.cut_outs p) → ((p : ℕ) → b.did.cut_ins p ≡ a.did.cut_ins p) → ((p : ℕ) → b.did.keeps p ≡ a.did.keeps p)
    → AllLeft x a → AllLeft y b
still_left x y a b w s outs ins keeps h p l =
    let k = h p (subst (λ (t : Setup). p < t.reducers) s l) in
    record {
      sent = ap (λ (t : Sent CutSaid). t.sent) (outs p) ∙ k.sent ∙ (λ i. cuts_of (sym s i) (sym (keeps p) i).events);
      took = ap (λ (t : Taken CutSaid). t.taken) (ins p) ∙ k.took ∙ (λ i. cuts_from p (sym w i).writings);
    }

ready_left : (x : Actors) (d : Deeds) → Ready x d → AllLeft x d
ready_left x d h p l = record { sent = home_sent x d h.home h.none p l; took = h.home.writer.took p l }

mapper_left : (e : Bool) (x : Actors) (a b : Deeds) → Ready x a → (w : ℕ) (y : Actors × Turn) (i : ℕ) → y.1 ≡ Spent i → DidMapper e w mapper_turn Idle x a y b → AllLeft y.0 b
mapper_left e x a b h w y i s (inl d) = absurd (idle i (sym (ap (λ (k : Actors × Turn). k.1) d.0) ∙ s))
mapper_left e x a b h w y i s (inr d) =
    let acted : Acted (whose.Mapper d.0.number) a b = Runs-acted (whose.Mapper d.0.number) e (mapper_turn d.0) a b d.2 (own_mapper d.0) d.3 in
    still_left x y.0 a b (ap (λ (k : Actors × Turn). k.0.writer) d.4) acted.only.setup (λ p. acted.only.cut_outs p (λ k. cc)) (λ p. acted.only.cut_ins p (λ k. cc)) (λ p. acted.only.keeps p (λ k. cc)) (ready_left x a h)

all_left : (backup : Bool) (list : List Order) (i : ℕ) (a b : World) → IsStart backup a.actors a.deeds → Went true (Opening 0 list, a) (NoneLeft i, b) → AllLeft b.actors b.deeds
all_left backup list i a b z w = went_leaves (λ x d j. AllLeft x d) true
    (λ x c d j l g. still_left x x c d refl l.setup (λ p. ap (λ (k : Did). k.cut_outs p) l.did) (λ p. ap (λ (k : Did). k.cut_ins p) l.did) (λ p. ap (λ (k : Did). k.keeps p) l.did) g)
    (λ x c d ready k y j s run. mapper_left true x c d ready k y j s (by_mapper-run true Idle x c d y k mapper_turn run)) (Opening 0 list) i a b (λ j q. cc) (start_at_home backup a.actors a.deeds z) w

module _ (backup : Bool) (list : List Order) (i : ℕ) (a b : World) (z : IsStart backup a.actors a.deeds) (w : Went true (Opening 0 list, a) (NoneLeft i, b)) where
  same : b.deeds.setup ≡ a.deeds.setup
  same = went_same true (Opening 0 list, a) (NoneLeft i, b) w

  put : HasPut b.actors.writer b.deeds.setup
  put = puts_on true (Opening 0 list) (NoneLeft i) a b w (λ k. cc) (start_put backup a z)

  pub spent_cuts : (p : ℕ) → p < a.deeds.setup.reducers → writings_of p b.actors.writer.writings ++ map (put_of p) ((machine b).shared.cuts p) ≡ map (put_of p) (cuts_of a.deeds.setup (history_of b.deeds p))
  spent_cuts p l =
      let h = all_left backup list i a b z w p (subst (λ (k : Setup). p < k.reducers) (sym same) l) in
      let taken = (b.deeds.did.cut_ins p).taken in
      let t = left_behind taken (b.deeds.did.cut_outs p).sent (went_follows p (Opening 0 list, a) (NoneLeft i, b) w (start_follow backup a z p l)) in
      (λ j. writings_are b.deeds.setup.reducers p b.actors.writer.writings put.put j ++ map (put_of p) (t.2 j))
      ∙ ap (λ (cs : List CutSaid). map (put_of p) cs ++ map (put_of p) t.0) (sym h.took)
      ∙ sym (map-append (put_of p) taken t.0)
      ∙ ap (map (put_of p)) (sym t.1 ∙ h.sent)
      ∙ ap (λ (k : Setup). map (put_of p) (cuts_of k (history_of b.deeds p))) same

  pub spent_others : (p : ℕ) → a.deeds.setup.reducers ≤ p → writings_of p b.actors.writer.writings ≡ []
  spent_others p l = writings_none b.deeds.setup.reducers p b.actors.writer.writings (subst (λ (k : Setup). k.reducers ≤ p) (sym same) l) put.put
