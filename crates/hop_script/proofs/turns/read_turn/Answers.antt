use Rattle.std.proofs.Common.{◌+◌, ◌∷◌, None, Some, Option, map, refl, sym, ap, ◌∙◌}
use Rattle.std.specs.Option.{option_and_then}
use Rattle.std.proofs.lemmas.Bool.{lt-ltb}
use Rattle.hop_script.specs.Text.{words_of}
use Rattle.hop_script.specs.TurnLines.{turn_form, turns_said}
use Rattle.hop_script.specs.declared.turn.Turn.{Turn}
use Rattle.hop_script.proofs.turns.read_turn.Goals as goal

pub returns-in_err-turn : goal.returns-in_err-turn
returns-in_err-turn c =
    let actors = c.args.actors in
    let after = turns_said actors c.in_ok-bytes.after.now in
    let said = ap (map (option_and_then (λ line. turn_form actors (words_of line)))) c.in_ok-bytes.ensures.0 ∙ ap (λ (o : Option Turn). o ∷ after) (sym c.in_err-turn.ensures.form) in
    rw c.from_residual-in_err-turn.ensures (None, after, said, refl)

pub returns-then-before-turn-gt-MAX_TURNS : goal.returns-then-before-turn-gt-MAX_TURNS
returns-then-before-turn-gt-MAX_TURNS c =
    let actors = c.args.actors in
    let turn = c.in_ok-turn.turn in
    let after = turns_said actors c.in_ok-bytes.after.now in
    let said = ap (map (option_and_then (λ line. turn_form actors (words_of line)))) c.in_ok-bytes.ensures.0 ∙ ap (λ (o : Option Turn). o ∷ after) (sym c.in_ok-turn.ensures.form) in
    (Some turn, after, said, lt-ltb 1000000 (c.args.before + turn.count) c.if-before-turn-gt-MAX_TURNS.true)
