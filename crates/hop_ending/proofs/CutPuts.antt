-- The writer puts each cut that it takes, over any ends, unless its turn stops.
use Rattle.std.proofs.Common.{◌≡◌, ◌⊎◌, ℕ, zero, suc, ◌≤◌, ◌<◌, ◌==◌, Bool, true, false, if◌then◌else◌, List, [], ◌∷◌, ◌++◌, map, refl, sym, ap, ◌∙◌, subst, inl, inr, Some, None, arith}
use Rattle.std.proofs.lemmas.Bool.{eqb-true}
use Rattle.hop_machine.specs.declared.words.Turn.{Turn}
use Rattle.hop_machine.specs.declared.words.Turn.TheVariants.{Stopped}
use Rattle.hop_machine.specs.step.Steps.{Setup, CutSaid}
use Rattle.hop_machine.specs.step.Programs.{Gives}
use Rattle.hop_machine.specs.actors.ReducerTurns.{Writer, Writing, lane_after, wrote, works, writes}
use Rattle.hop_machine.specs.home.ReducerHome.{cuts_from}
use Rattle.hop_machine.specs.play.Play.{Place, World, Went}
use Rattle.hop_machine.specs.run.AllHome.{IsStart}
use Rattle.hop_machine.proofs.play.Plays.{went_keeps}
use Rattle.hop_machine.proofs.settling.ReducerFalls.{below}
use Rattle.hop_ending.specs.Cuts.{put_of, writings_of, ArePut, HasPut, CutsFollow}
use Rattle.hop_ending.proofs.CutPlaces.{UnlessHalted, TurnsKeep, next_writer}

-- # Lists of writings

-- one more that was put
put_last : (n p : ℕ) (c : CutSaid) (ws : List Writing) → p < n → ArePut n ws → ArePut n (ws ++ put_of p c ∷ [])
put_last n p c [] l h = (refl, l, tt)
put_last n p c (w ∷ ws) l h = (h.0, h.1, put_last n p c ws l h.2)

-- the writings of a reducer are its cuts, put
pub writings_are : (n p : ℕ) (ws : List Writing) → ArePut n ws → writings_of p ws ≡ map (put_of p) (cuts_from p ws)
writings_are n p [] h = refl
writings_are n p (w ∷ ws) h = one (w.reducer == p) (eqb-true w.reducer p) (writings_are n p ws h.2)
  where
    one : (t : Bool) → (t ≡ true → w.reducer ≡ p) → writings_of p ws ≡ map (put_of p) (cuts_from p ws)
        → (if t then w ∷ writings_of p ws else writings_of p ws) ≡ map (put_of p) (if t then w.cut ∷ cuts_from p ws else cuts_from p ws)
    one true e ih = λ i. (record { reducer = e refl i; cut = w.cut; put = h.0 i }) ∷ ih i
    one false e ih = ih

-- there are none of other numbers
pub writings_none : (n p : ℕ) (ws : List Writing) → n ≤ p → ArePut n ws → writings_of p ws ≡ []
writings_none n p [] l h = refl
writings_none n p (w ∷ ws) l h = one (w.reducer == p) (eqb-true w.reducer p) (writings_none n p ws l h.2)
  where
    one : (t : Bool) → (t ≡ true → w.reducer ≡ p) → writings_of p ws ≡ [] → (if t then w ∷ writings_of p ws else writings_of p ws) ≡ []
    one true e ih = absurd (let k = e refl in let j = h.1 in omega (arith, k, j, l))
    one false e ih = ih

-- # A turn

module _ (s : Setup) (x : Writer) (h : HasPut x s) where
  -- it stopped, or put what it took
  abbrev Puts : Writer × Turn → Type 0
  Puts y = (y.1 ≡ Stopped) ⊎ HasPut y.0 s

  wrote_puts : (p : ℕ) (c : CutSaid) (ok : Bool) → p < s.reducers → Puts (wrote x p c ok, works ok)
  wrote_puts p c true l = inr (record {
    setup = h.setup;
    next = subst (λ (k : Setup). lane_after k.reducers p < s.reducers) (sym h.setup) (below s.reducers p l);
    put = put_last s.reducers p c x.writings l h.put;
  })
  wrote_puts p c false l = inl refl

  writes_puts : (count p : ℕ) → p < s.reducers → Gives Puts (writes x count p)
  writes_puts zero p l = inr h
  writes_puts (suc count) p l = by_cut (writes_puts count (lane_after x.setup.reducers p) (subst (λ (k : Setup). lane_after k.reducers p < s.reducers) (sym h.setup) (below s.reducers p l)))
    where
      by_cut : Gives Puts (writes x count (lane_after x.setup.reducers p)) → Gives Puts (writes x (suc count) p)
      by_cut later None = later
      by_cut later (Some c) = λ ok. wrote_puts p c ok l

pub turns_put : (s : Setup) → TurnsKeep (λ (x : Writer). HasPut x s)
turns_put s x h = writes_puts s x h x.setup.reducers x.next h.next

-- # Along a run

-- the writer of these worlds put all that it took, unless the run halted
abbrev pub PutsAt : Setup → Place × World → Type 0
PutsAt s z = UnlessHalted (λ (x : Writer). HasPut x s) z.0 z.1.actors.writer

pub still_puts : (s : Setup) (a b : Place × World) → b.0 ≡ a.0 → b.1.actors ≡ a.1.actors → PutsAt s a → PutsAt s b
still_puts s a b p x h = subst (λ (k : Place × Writer). UnlessHalted (λ (w : Writer). HasPut w s) k.0 k.1) (λ i. (sym p i, (sym x i).writer)) h

pub went_puts : (s : Setup) (e : Bool) (a b : Place × World) → Went e a b → PutsAt s a → PutsAt s b
went_puts s e a b w h = went_keeps e (PutsAt s) (λ x y p q l g. still_puts s x y p q g) (λ x y n g. next_writer (λ (k : Writer). HasPut k s) (turns_put s) e x y n g) a b w h

-- # A start

pub start_put : (backup : Bool) (a : World) → IsStart backup a.actors a.deeds → HasPut a.actors.writer a.deeds.setup
start_put backup a z = subst (λ (x : Writer). HasPut x a.deeds.setup) (sym z.writer) (record { setup = refl; next = z.set.reducers; put = tt })

pub start_follow : (backup : Bool) (a : World) → IsStart backup a.actors a.deeds → CutsFollow a.deeds
start_follow backup a z p l = ([], (z.reducers_idle p l).sent ∙ ap (λ (cs : List CutSaid). cs ++ []) (sym (z.writer_idle.taken p)))
