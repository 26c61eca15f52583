use Rattle.std.proofs.Common.{◌≡◌, ℕ, ◌+◌, Option, Some, None, refl, ap, ◌∙◌}
use Rattle.hop_machine.specs.declared.words.Who.TheVariants as whose
use Rattle.hop_machine.specs.step.Steps.{Did, Seat, next_split_of}
use Rattle.hop_actor_tests.specs.Seats.{seat}
use Rattle.hop_actor_tests.proofs.boards.ask.Goals as goal

counted : (o : Option ℕ) (x : Seat) → (next_split_of o x).calls ≡ x.calls + 1
counted None x = refl
counted (Some i) x = refl

pub returns-clause-calls : goal.returns-clause-calls
returns-clause-calls c = ap (λ (d : Did). (d.seats (whose.Mapper 0)).calls) (c.next_split.ensures.step 0 c.requires.who).did ∙ counted c.next_split.result (seat c.args.board.now)
