-- A turn list of which some lines were read.
use Rattle.std.proofs.Common.{◌≡◌, ℕ, ◌+◌, ◌≤◌, true, false, List, [], ◌∷◌, ◌++◌, length, take, drop, None, Some, sym, ap, ◌∙◌, arith}
use Rattle.std.proofs.lemmas.List.{take_all}
use Rattle.std.proofs.lemmas.List.Sums.{sum_by_push}
use Rattle.std.proofs.lemmas.Bool.{ltb-false}
use Rattle.std.specs.List.{All}
use Rattle.std.proofs.lemmas.List.Elements.{All-append, All-from_recursion}
use Rattle.hop_script.specs.TurnLines.{turns_said, given_turns, turn_count, is_bad_turn, is_bad_behind, first_bad_turn, turns_of, IsTurn, BeginsBadly, Begins}
use Rattle.hop_script.specs.declared.turn.Actors.{Actors}
use Rattle.hop_script.specs.declared.turn.Turn.{Turn}
use Rattle.hop_script.proofs.ReadLemmas.{next_item, no_item, GoodBefore, good_before_next, first_bad_line, no_bad_line, given-push}

module _ (actors : Actors) where
  -- the first n lines of the text were read and are good, they gave these turns, and this is left
  pub record IsReading (text rest : List ℕ) (n total : ℕ) (turns : List Turn) : Type 0 where
    pub fits : n + length rest ≤ length text
    pub rest_said : drop n (turns_said actors text) ≡ turns_said actors rest
    pub good : GoodBefore (is_bad_turn (turns_said actors text)) (length (turns_said actors text)) n
    pub turns_are : turns ≡ given_turns (take n (turns_said actors text))
    pub total_is : total ≡ turn_count turns
    pub few : total ≤ 1000000
    pub known : All (IsTurn actors) turns

  -- one more line
  pub IsReading-next : (text rest after : List ℕ) (n total : ℕ) (turns : List Turn) (turn : Turn) → IsReading text rest n total turns → Begins actors rest total turn after → IsReading text after (n + 1) (total + turn.count) (turns ++ turn ∷ [])
  IsReading-next text rest after n total turns turn reading begins =
      let said = turns_said actors text in
      let next = next_item said n (Some turn) (turns_said actors after) (reading.rest_said ∙ begins.said) in
      let before : turn_count (given_turns (take n said)) ≡ total = sym (reading.total_is ∙ ap turn_count reading.turns_are) in
      let good : is_bad_turn said n ≡ false = ap (is_bad_behind (turn_count (given_turns (take n said)))) (next.here None) ∙ ap (λ b. is_bad_behind b (Some turn)) before ∙ begins.good in
      record {
        fits = omega (arith, reading.fits, begins.shorter);
        rest_said = next.rest;
        good = good_before_next (is_bad_turn said) (length said) n next.within good reading.good;
        turns_are = ap (λ ts. ts ++ turn ∷ []) reading.turns_are ∙ sym (ap given_turns next.taken ∙ given-push (take n said) turn);
        total_is = ap (λ t. t + turn.count) reading.total_is ∙ sym (sum_by_push (λ (t : Turn). t.count) turns turn);
        few = ltb-false 1000000 (total + turn.count) begins.good;
        known = All-append (IsTurn actors) turns (turn ∷ []) reading.known (All-from_recursion (IsTurn actors) (turn ∷ []) (begins.known, tt));
      }

  -- the next line is the first bad one
  pub IsReading-bad : (text rest : List ℕ) (n total : ℕ) (turns : List Turn) → IsReading text rest n total turns → BeginsBadly actors rest total → first_bad_turn actors text ≡ Some (n + 1)
  IsReading-bad text rest n total turns reading begins =
      let said = turns_said actors text in
      let next = next_item said n begins.0 begins.1 (reading.rest_said ∙ begins.2) in
      let before : turn_count (given_turns (take n said)) ≡ total = sym (reading.total_is ∙ ap turn_count reading.turns_are) in
      let is : is_bad_turn said n ≡ true = ap (is_bad_behind (turn_count (given_turns (take n said)))) (next.here None) ∙ ap (λ b. is_bad_behind b begins.0) before ∙ begins.3 in
      first_bad_line (is_bad_turn said) (length said) n next.within is reading.good

  -- no line is left
  pub IsReading-done : (text rest : List ℕ) (n total : ℕ) (turns : List Turn) → IsReading text rest n total turns → rest ≡ [] → first_bad_turn actors text ≡ None
  IsReading-done text rest n total turns reading done =
      let said = turns_said actors text in
      no_bad_line (is_bad_turn said) (length said) n (no_item said n (reading.rest_said ∙ ap (turns_said actors) done)) reading.good

  pub IsReading-turns : (text rest : List ℕ) (n total : ℕ) (turns : List Turn) → IsReading text rest n total turns → rest ≡ [] → turns ≡ turns_of actors text
  IsReading-turns text rest n total turns reading done =
      let said = turns_said actors text in
      reading.turns_are ∙ ap given_turns (take_all n said (no_item said n (reading.rest_said ∙ ap (turns_said actors) done)))
