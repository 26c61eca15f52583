-- What the conditions of the board's ends allow, the board's rule allows.
use Rattle.std.proofs.Common.{◌≡◌, ◌⊎◌, ℕ, ◌<◌, true, sym, subst, inl, inr, Some}
use Rattle.hop_base.specs.Run.{fails_at}
use Rattle.hop_machine.specs.declared.words.Who.TheVariants as whose
use Rattle.hop_machine.specs.step.Steps.{Step, Send, Take, NextSplit, Draw, Commit, Revoke, AskWinner, AskRevoked, Join, TryHold, Hold, Record, GiveBack, SendCut, TakeCut, Risk, Deeds, rules_of}
use Rattle.hop_machine.specs.step.Owners.{IsAt}
use Rattle.hop_machine.specs.home.Conditions.{Asks}
use Rattle.hop_machine.specs.home.Said.{IsToFail, seat_of, knows}
use Rattle.hop_machine.specs.board.Board.{HasLost, StandsIn, MayDo}

same_mapper : (w v : ℕ) → whose.Mapper w ≡ whose.Mapper v → w ≡ v
same_mapper w v e = cc

module _ (parts w : ℕ) (d : Deeds) (inside : w < d.setup.workers) (known : StandsIn d.words (knows d (whose.Mapper w))) where
  inside_of : (v : ℕ) → whose.Mapper w ≡ whose.Mapper v → v < d.setup.workers
  inside_of v e = subst (λ u. u < d.setup.workers) (same_mapper w v e) inside

  known_of : (v : ℕ) → whose.Mapper w ≡ whose.Mapper v → StandsIn d.words (knows d (whose.Mapper v))
  known_of v e = subst (λ u. StandsIn d.words (knows d (whose.Mapper u))) (same_mapper w v e) known

  pub allowed : (s : Step) → IsAt (whose.Mapper w) s → Asks parts s d → MayDo (rules_of d.setup) d.words (seat_of d) s
  allowed (NextSplit v) at asks = inside_of v at
  allowed (Draw v i) at asks = (inside_of v at, asks.1)
  allowed (Commit v i a) at asks = (inside_of v at, asks.1.drew, asks.1.below, asks.1.alive, asks.1.succeeds)
  allowed (Revoke v i a) at asks = (inside_of v at, asks.1.drew, asks.1.below, of asks.1.why)
    where
      of : (fails_at d.setup.script i a ≡ Rattle.std.proofs.Common.None → ⊥) ⊎ ((b : ℕ) × ((d.told.knows (whose.Mapper v)).won i b ≡ true) × (b ≡ a → ⊥)) → IsToFail (rules_of d.setup) i a ⊎ HasLost d.words i a
      of (inl line) = inl line
      of (inr lost) = inr (lost.0, (known_of v at).won i lost.0 lost.1, lost.2)
  allowed (AskWinner who i) at asks = tt
  allowed (AskRevoked who i a) at asks = tt
  allowed (Join p i a) at asks = tt
  allowed (Send v p m) at asks = tt
  allowed (Take v p) at asks = tt
  allowed (TryHold p) at asks = tt
  allowed (Hold p) at asks = tt
  allowed (Record p e) at asks = tt
  allowed (GiveBack p due) at asks = tt
  allowed (SendCut p c) at asks = tt
  allowed (TakeCut p) at asks = tt
  allowed Risk at asks = tt
