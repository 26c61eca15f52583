-- What a reducer lacks once all mappers have ended.
use Rattle.std.proofs.Common.{◌≡◌, ℕ, zero, suc, ◌&&◌, nat_lt, ◌<◌, ◌≤◌, Bool, false, not, List, [], ◌∷◌, length, refl, sym, ap, ◌∙◌, subst, arith, Option, Some, None, slice_index}
use Rattle.std.specs.List.{slice_get}
use Rattle.std.proofs.Math.Nat.{zero-mod}
use Rattle.std.proofs.lemmas.Bool.{ltb-false}
use Rattle.std.proofs.lemmas.List.Elements.{All-from_get_or}
use Rattle.hop_base.specs.Run.{fails_at}
use Rattle.hop_base.specs.declared.part.Part.{Part}
use Rattle.hop_event.specs.declared.event.Event.{Event}
use Rattle.hop_event.specs.declared.event.Event.TheVariants.{Arrive, Ignore, Won, Revoked, Restart, Finish}
use Rattle.hop_event.specs.History.{winner, upto}
use Rattle.hop_event.specs.Legal.{Rules, GrowsLegally, IsLegal, MayFinish, no_other}
use Rattle.hop_shelf.specs.Finish.{NamesBelow}
use Rattle.hop_machine.specs.declared.words.Who.TheVariants as whose
use Rattle.hop_machine.specs.step.Steps.{Deeds, Setup, Runs, rules_of}
use Rattle.hop_machine.specs.step.Setup.{splits_of}
use Rattle.hop_machine.specs.step.Pushing.{kept_end, end_by}
use Rattle.hop_machine.specs.actors.MapperTurns.{Mapper, Work}
use Rattle.hop_machine.specs.actors.ReducerTurns.{Reducer, reads_winner, reads_upto, must_restart}
use Rattle.hop_machine.specs.home.Said.{history_of, BeganBy, IsAtWork}
use Rattle.hop_machine.specs.home.ReducerHome.{MayPull}
use Rattle.hop_machine.specs.board.Board.{Gathered}
use Rattle.hop_machine.specs.play.Play.{Actors, World, Emptying, Went, kept_by}
use Rattle.hop_machine.specs.settling.Settling.{AllMet}
use Rattle.hop_machine.specs.run.AllHome.{Pulls, IsAtPlace, IsPulling, ReducerIsHome, NoRestartDue, mapper_of}
use Rattle.hop_machine.specs.run.Catches.{ReducerAfter, ReducerCalm}
use Rattle.hop_machine.specs.ending.Finishing.{HasPulled}
use Rattle.hop_machine.proofs.mapper.AtHome.{at_home_says}
use Rattle.hop_machine.proofs.ending.CatchingUp.{is-kept}
use Rattle.hop_machine.proofs.ending.KeptEnds.{kept_end-within}
use Rattle.hop_machine.proofs.ending.Histories.{wins}
use Rattle.hop_machine.proofs.ending.Pulling.{lacking-may-come, alone_is}
use Rattle.hop_machine.proofs.ending.Winners.{won-known, winner-began}
use Rattle.hop_machine.proofs.ending.Settled.{list-begun, begun-range}
use Rattle.hop_machine.proofs.ending.Finished.{may-finish, legal-begun}
use Rattle.hop_machine.proofs.run.Lanes.{emptied_lanes}
use Rattle.hop_machine.proofs.run.Moving.{Moved, mapper_still}
use Rattle.hop_machine.proofs.run.AllMoving.{no_mapper}
use Rattle.hop_machine.proofs.run.PullCalls.{read-after}
use Rattle.hop_machine.proofs.run.Pulling.{have_ended, is_at_end, may_lack}
use Rattle.hop_actors.specs.Calls.{MayEnd}
use Rattle.hop_settle.specs.Lacking.{Lacks, AreBegunBy}

-- # Who kept it

at_least : (ms : List Mapper) (w i n : ℕ) (m : Mapper) → slice_get ms w ≡ Some m → m.kept i n ≤ kept_by ms i n
at_least [] w i n m h = cc
at_least (x ∷ ms) zero i n m h = let same : x ≡ m = cc in let e = ap (λ (y : Mapper). y.kept i n) same in omega (arith, e)
at_least (x ∷ ms) (suc w) i n m h = let l = at_least ms w i n m h in omega (arith, l)

at_most : (ms : List Mapper) (i n most : ℕ) → ((w : ℕ) (m : Mapper) → slice_get ms w ≡ Some m → m.kept i n ≤ most) → kept_by ms i n ≤ most
at_most [] i n most h = omega arith
at_most (x ∷ ms) i n most h = let l = at_most ms i n most (λ w m g. h (suc w) m g) in let k = h zero x refl in omega (arith, l, k)

some_there : {A : Type 0} (xs : List A) (i : ℕ) → i < length xs → (y : A) × (slice_get xs i ≡ Some y)
some_there [] i l = absurd (omega arith)
some_there (x ∷ xs) zero l = (x, refl)
some_there (x ∷ xs) (suc i) l = some_there xs i (omega (arith, l))

-- no mapper at home kept more than the split has
pub kept-within : (m : Mapper) (d : Deeds) (w i n : ℕ) → Rattle.hop_machine.specs.run.AllHome.MapperIsHome w m d → m.kept i n ≤ slice_index d.setup.lens i
kept-within m d w i n h = of (m.kept i n) refl
  where
    of : (k : ℕ) → m.kept i n ≡ k → k ≤ slice_index d.setup.lens i
    of zero e = omega arith
    of (suc k) e =
        let says = at_home_says m d h.home in
        let began = says.vault i n (omega (arith, e)) in
        let kept = (is-kept m d says i n began).within in
        let whole = kept_end-within m.rules i n in
        let same = ap (λ (r : Rules). slice_index r.lens i) h.home.fits.rules in
        omega (arith, e, kept, whole, same)

-- # At a pull

module _ (p i j : ℕ) (x : Actors) (d : Deeds) (h : Pulls p i x d) (inside : p < d.setup.reducers) (r : Reducer) (is : slice_get x.reducers p ≡ Some r) where
  home : ReducerIsHome p r d
  home = h.ends.home.reducer p r is

  pub pulls-calm : ReducerCalm r d
  pulls-calm = record {
    now = record { set = h.ends.home.set; after = subst (λ k. ReducerAfter k r d) (sym home.number) (record { home = home; «open» = h.«open» p (omega arith) inside; none = h.ends.none p inside }) };
    calm = subst (λ k. NoRestartDue d k) (sym home.number) (h.no_restart p (omega arith) inside);
  }

  -- an attempt that was begun and won was kept whole
  kept_whole : (n v : ℕ) (m : Mapper) → slice_get x.mappers v ≡ Some m → BeganBy (rules_of d.setup) d v j n → fails_at d.setup.script j n ≡ None → m.kept j n ≡ slice_index d.setup.lens j
  kept_whole n v m g b line =
      let rules = rules_of d.setup in
      let k = h.ends.home.mapper v m g in
      let began : BeganBy m.rules d m.number j n = subst (λ (u : Rules × ℕ). BeganBy u.0 d u.1 j n) (λ t. (sym k.home.fits.rules t, sym k.number t)) b in
      let over = (at_home_says m d k.home).over j n began (λ at. subst (λ (w : Work). IsAtWork w j n) (h.ends.ended v m g).work at) in
      over.kept ∙ ap (λ (r : Rules). kept_end r j n) k.home.fits.rules ∙ ap (end_by rules.spill (slice_index rules.lens j)) line

  whole : (n : ℕ) → winner j (history_of d r.number) ≡ Some n → kept_by x.mappers j n ≡ slice_index d.setup.lens j
  whole n w =
      let rules = rules_of d.setup in let at = is_at_end x d h.ends in
      let won = won-known rules d at r.number j n (subst (λ k. k < d.setup.reducers) (sym home.number) inside) w in
      let s = winner-began rules d at j n won in
      let t = some_there x.mappers s.0 (let l = s.1 in let m = h.ends.home.workers in omega (arith, l, m)) in
      let line = (wins rules r.number j n (history_of d r.number) home.home.home.legal w).succeeds in
      let full = kept_whole n s.0 t.0 t.1 s.2 line in
      let least = at_least x.mappers s.0 j n t.0 t.1 in
      let most = at_most x.mappers j n (slice_index d.setup.lens j) (λ w m g. kept-within m d w j n (h.ends.home.mapper w m g)) in
      omega (arith, most, least, full)

  pub lacks-begins : Lacks x.mappers r j d
  lacks-begins =
      let k = may_lack x d h.ends r j (subst (λ k. k < d.setup.reducers) (sym home.number) inside) home.home.setup in
      record {
        calm = pulls-calm;
        mappers = h.ends.home.mapper;
        restarted = λ n w l. k.restarted n w (subst (λ (s : Setup). upto j n (history_of d r.number) < slice_index s.lens j) (sym home.home.setup) l);
        whole = whole;
      }

-- # What is read off

module _ (e : Bool) (ms : List Mapper) (r : Reducer) (i : ℕ) where
  lacks-on : (a b : Deeds) → Moved (whose.Reducer r.number) a b → history_of b r.number ≡ history_of a r.number → ReducerCalm r b → Lacks ms r i a → Lacks ms r i b
  lacks-on a b z same calm h = record {
    calm = calm;
    mappers = λ w m g. mapper_still (whose.Reducer r.number) a b z w m (no_mapper r.number w) (h.mappers w m g);
    restarted = λ n w l. ap Rattle.hop_machine.specs.step.Pushing.has_restart same
        ∙ h.restarted n (sym (ap (winner i) same) ∙ w) (subst (λ (u : Setup × List Event). upto i n u.1 < slice_index u.0.lens i) (λ t. (z.acted.only.setup t, same t)) l);
    whole = λ n w. h.whole n (sym (ap (winner i) same) ∙ w) ∙ ap (λ (s : Setup). slice_index s.lens i) (sym z.acted.only.setup);
  }

  pub lacks-winner : (o : Option ℕ) (a b : Deeds) → Lacks ms r i a → Runs e (reads_winner r i) a o b → Lacks ms r i b × (o ≡ winner i (history_of b r.number))
  lacks-winner o a b h run = let x = read-after e r (λ k. winner i k) a b o h.calm run in (lacks-on a b x.2 x.3 x.1 h, x.0)

  pub lacks-upto : (n from : ℕ) (a b : Deeds) → Lacks ms r i a → Runs e (reads_upto r i n) a from b → Lacks ms r i b × (from ≡ upto i n (history_of b r.number)) × (history_of b r.number ≡ history_of a r.number)
  lacks-upto n from a b h run = let x = read-after e r (λ k. upto i n k) a b from h.calm run in (lacks-on a b x.2 x.3 x.1 h, x.0, x.3)

-- # The pull

module _ (ms : List Mapper) (r : Reducer) (d : Deeds) where
  legal_here : ReducerCalm r d → GrowsLegally (rules_of r.setup) r.number (history_of d r.number)
  legal_here c = subst (λ (s : Setup). GrowsLegally (rules_of s) r.number (history_of d r.number)) (sym c.now.after.home.home.setup) c.now.after.home.home.home.legal

  -- what is lacking of the winner may be pulled, up to where some mapper kept it
  pub lacks-may : (part : Part) → Lacks ms r part.split d → winner part.split (history_of d r.number) ≡ Some part.attempt → part.from ≡ upto part.split part.attempt (history_of d r.number)
      → part.to ≡ slice_index d.setup.lens part.split → part.from < part.to → MayPull r part d × (part.to ≡ kept_by ms part.split part.attempt)
  lacks-may part h w from to less =
      let i = part.split in let n = part.attempt in let k = history_of d r.number in
      let same : d.setup ≡ r.setup = sym h.calm.now.after.home.home.setup in
      let full : slice_index r.setup.lens i ≡ slice_index d.setup.lens i = ap (λ (s : Setup). slice_index s.lens i) (sym same) in
      let short : upto i n k < slice_index d.setup.lens i = omega (arith, from, to, less) in
      let here : upto i n k < slice_index r.setup.lens i = omega (arith, full, short) in
      let alive = (wins (rules_of r.setup) r.number i n k (legal_here h.calm) w).alive in
      let made : Part = record { split = i; attempt = n; from = upto i n k; to = slice_index r.setup.lens i } in
      let is : made ≡ part = (λ t. record { split = i; attempt = n; from = sym from t; to = (full ∙ sym to) t }) in (
        subst (λ (q : Part). MayPull r q d) is (record {
          restarted_before = h.restarted n w short;
          wants = (λ t. not (alive t) && no_other (winner i k) n) ∙ alone_is (winner i k) n w;
          joined = refl;
          range = (lacking-may-come (rules_of r.setup) r.number (zero-mod r.setup.spill) k (legal_here h.calm) i n w here).0;
          no_cut = h.calm.now.after.none;
          no_restart = ap (λ (s : Setup). must_restart s r.number k) h.calm.now.after.home.home.setup ∙ h.calm.calm;
        }),
        to ∙ sym (h.whole n w),
      )

-- # The finish

names-below : (rules : Rules) (p : ℕ) (begun : ℕ → ℕ) (h : List Event) → IsLegal rules p begun h → NamesBelow begun h
names-below rules p begun [] l = tt
names-below rules p begun (Arrive part via ∷ h) l = (l.0.rule.0.attempt.attempt, names-below rules p begun h l.1)
names-below rules p begun (Ignore part via have ∷ h) l = (l.0.rule.0.attempt.attempt, names-below rules p begun h l.1)
names-below rules p begun (Won i a ∷ h) l = (l.0.rule.attempt.attempt, names-below rules p begun h l.1)
names-below rules p begun (Revoked i a ∷ h) l = (l.0.rule.attempt.attempt, names-below rules p begun h l.1)
names-below rules p begun (Restart ∷ h) l = (tt, names-below rules p begun h l.1)
names-below rules p begun (Finish ∷ h) l = (tt, names-below rules p begun h l.1)

module _ (p i : ℕ) (x : Actors) (d : Deeds) (h : Pulls p i x d) (inside : p < d.setup.reducers) (many : splits_of d.setup ≤ i) (few : d.setup.attempts ≤ 16) (r : Reducer) (is : slice_get x.reducers p ≡ Some r) where
  pub may-end : (begun : List ℕ) → AreBegunBy x d.setup begun → MayEnd r begun d
  may-end begun are =
      let calm = pulls-calm p i 0 x d h inside r is in
      let number = (h.ends.home.reducer p r is).number in
      let set = calm.now.after.home.home.setup in
      let rules = rules_of d.setup in
      let last = list-begun rules d (mapper_of x d.setup) (have_ended x d h.ends) begun are in
      let at = is_at_end x d h.ends in
      let pulled : HasPulled rules (history_of d p) = λ j n l w. h.there j n (omega (arith, l, many)) w in
      record {
        none_due = calm.now.after.none;
        no_restart = ap (λ (s : Setup). must_restart s r.number (history_of d r.number)) set ∙ calm.calm;
        each = are.count ∙ ap (λ (s : Setup). length s.lens) (sym set);
        few = All-from_get_or (λ b. b ≤ 16) begun 0 (λ j l. let k = (begun-range rules d (mapper_of x d.setup) (have_ended x d h.ends) begun are j (let c = are.count in omega (arith, c, l))).1 in omega (arith, k, few));
        named = subst (λ q. NamesBelow (slice_index begun) (history_of d q)) (sym number) (names-below rules p (slice_index begun) (history_of d p) (legal-begun rules d at (slice_index begun) last p inside));
        done = subst (λ (u : Setup × ℕ). MayFinish u.0.lens (slice_index begun) (history_of d u.1)) (λ t. (sym set t, sym number t)) (may-finish rules d at (slice_index begun) last p inside pulled);
      }

-- # Where the pulls begin

pub may-begin : (e : Bool) (b c : World) (n : ℕ) → IsAtPlace (Emptying 0) b.actors b.deeds → AllMet b.deeds → Went e (Emptying 0, b) (Emptying n, c) → nat_lt n (length c.actors.reducers) ≡ false → AllMet c.deeds → Gathered (rules_of c.deeds.setup) c.deeds
    → IsPulling (Emptying n) c.actors c.deeds
may-begin e b c n home met w l again gathered =
    let at = emptied_lanes e b c n home met w l again in
    let h = at.0 in
    let many : c.deeds.setup.reducers ≤ n = let k = ltb-false n (length c.actors.reducers) l in let m = h.ready.home.reducers in omega (arith, k, m) in (
      l,
      record {
        ends = record { home = h.ready.home; none = h.ready.none; ended = h.ended; emptied = at.1; gathered = gathered };
        closed = λ q m k. absurd (omega arith);
        «open» = λ q m k. h.ready.«open» q k;
        no_restart = λ q m k. h.no_restart q (omega (arith, k, many)) k;
        there = λ j a m. absurd (omega arith);
      },
    )
