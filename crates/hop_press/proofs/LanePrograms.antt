-- The programs of one lane, step by step.
use Rattle.std.proofs.Common.{◌≡◌, ℕ, Bool, true, false, List, [], ◌∷◌, ◌++◌, refl, ap, ◌∙◌}
use Rattle.hop_machine.specs.declared.words.Message.{Message}
use Rattle.hop_machine.specs.step.Steps.{Deeds, Prog, Done, Then, Steps, Runs, Send}
use Rattle.hop_machine.specs.actors.MapperTurns.{Lane, flush, offer, with_row, joined, last_row}
use Rattle.hop_machine.specs.home.Conditions.{Safe}
use Rattle.hop_machine.proofs.step.Programs.{risk_steps}

module _ (parts : ℕ) (e : Bool) (w p : ℕ) (m : Message) where
  -- the ready message was sent, and what is left is safe
  pub flush_safe : (rows : List Message) (a b : Deeds) → Steps e (Send w p m) true a b → Safe parts e (flush w p (m ∷ rows)) a → Safe parts e (flush w p rows) b
  flush_safe [] a b st h = tt
  flush_safe (r ∷ rows) a b st h = (h.1 true b st).1 true b (risk_steps e true b)

  -- what runs the rest has run the whole
  pub flush_runs : (rows : List Message) (a b : Deeds) → Steps e (Send w p m) true a b → (x : Lane) (d : Deeds) → Runs e (flush w p rows) b x d → Runs e (flush w p (m ∷ rows)) a x d
  flush_runs [] a b st x d h = (true, b, st, h)
  flush_runs (r ∷ rows) a b st x d h = (true, b, st, (true, b, risk_steps e true b, h))

  -- the first row couldn't become ready
  pub flush_stops : (rows : List Message) (a b : Deeds) → Steps e (Send w p m) true a b → (rows ≡ [] → ⊥) → Runs e (flush w p (m ∷ rows)) a (record { went = false; held = rows }) b
  flush_stops [] a b st n = absurd (n refl)
  flush_stops (r ∷ rows) a b st n = (true, b, st, (false, b, risk_steps e false b, (refl, refl)))

  -- the lane is full
  pub flush_full : (rows : List Message) (a b : Deeds) → Steps e (Send w p m) false a b → Runs e (flush w p (m ∷ rows)) a (record { went = true; held = m ∷ rows }) b
  flush_full rows a b st = (false, b, st, (refl, refl))

  -- nothing was held, and it was sent
  pub offer_sent : (a b : Deeds) → Steps e (Send w p m) true a b → Runs e (offer w m p []) a (record { went = true; held = [] }) b
  offer_sent a b st = (true, b, st, (refl, refl))

  -- nothing was held, and the lane is full
  pub offer_full : (a b : Deeds) → Steps e (Send w p m) false a b → Runs e (offer w m p []) a (record { went = true; held = m ∷ [] }) b
  offer_full a b st = (false, b, st, (refl, refl))

  -- something was held, and memory was wanting or not
  pub offer_behind : (ready : Message) (rows : List Message) (a : Deeds) → Runs e (offer w m p (ready ∷ rows)) a (record { went = true; held = ready ∷ with_row rows m }) a
  offer_behind ready rows a = (true, a, risk_steps e true a, (refl, refl))

  pub offer_stops : (ready : Message) (rows : List Message) (a : Deeds) → Runs e (offer w m p (ready ∷ rows)) a (record { went = false; held = ready ∷ rows }) a
  offer_stops ready rows a = (false, a, risk_steps e false a, (refl, refl))

-- the last row alone changes
pub with_row-append : (rows : List Message) (r m : Message) → with_row (rows ++ r ∷ []) m ≡ rows ++ last_row (joined r m) r m
with_row-append [] r m = refl
with_row-append (x ∷ []) r m = refl
with_row-append (x ∷ y ∷ rows) r m = ap (λ t. x ∷ t) (with_row-append (y ∷ rows) r m)

-- over any ends, a program leaves a value the same ends
pub runs_keep_ends : {A : Type 0} (e : Bool) (k : Prog A) (a b : Deeds) (r : A) → Runs e k a r b → b.ends ≡ a.ends
runs_keep_ends e (Done x) a b r h = ap (λ (d : Deeds). d.ends) h.1
runs_keep_ends e (Then s k) a b r h = let t = runs_keep_ends e (k h.0) h.1 b r h.3 in t ∙ h.2.ends
