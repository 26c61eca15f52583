-- What the condition of a mapper's step says of its end.
use Rattle.std.proofs.Common.{◌≡◌, ℕ, ◌<◌, ◌&&◌, Bool, true, false, Some, sym, ap, ◌∙◌, subst}
use Rattle.std.proofs.lemmas.Bool.{ltb-true}
use Rattle.hop_machine.specs.declared.words.Who.{Who}
use Rattle.hop_machine.specs.declared.words.Who.TheVariants as whose
use Rattle.hop_machine.specs.step.Steps.{Setup, Step, BoardEnd, end_of, same_actor}
use Rattle.hop_machine.specs.home.Conditions.{May, Asks, IsHere}
use Rattle.hop_inner.specs.Boards.{MayAsMapper}
use Rattle.hop_inner.specs.Setups.{parts}
use Rattle.hop_board.specs.PlainBoards.{BoardValue, board_deeds, has_board, is_actor}

pub same_mapper : (w v : ℕ) → whose.Mapper w ≡ whose.Mapper v → w ≡ v
same_mapper w v e = cc

both_true : (a b : Bool) → (a && b) ≡ true → b ≡ true
both_true true b h = h
both_true false b h = cc

module _ (setup : Setup) (b : BoardValue) (step : ℕ → Step) (r : MayAsMapper b.who step (board_deeds setup b)) where
  -- what is asked, of the end of that mapper
  pub ask_of : Asks parts (step r.number) (board_deeds setup (record { name = b.name; who = whose.Mapper r.number; calls = b.calls }))
  ask_of = subst (λ who. Asks parts (step r.number) (board_deeds setup (record { name = b.name; who = who; calls = b.calls }))) r.mapper r.may.asks

  -- the run has that mapper
  pub inside_of : end_of (step r.number) ≡ Some (BoardEnd (whose.Mapper r.number)) → r.number < setup.workers
  inside_of at =
      let here : has_board setup b.who (BoardEnd (whose.Mapper r.number)) ≡ true = subst (IsHere (board_deeds setup b).ends) at r.may.here in
      ltb-true r.number setup.workers (both_true (same_actor (whose.Mapper r.number) b.who) (is_actor setup (whose.Mapper r.number)) here)
