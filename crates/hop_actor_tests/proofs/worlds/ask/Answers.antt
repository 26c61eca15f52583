use Rattle.std.proofs.Common.{◌≡◌, ℕ, ◌+◌, Option, Some, None, refl, ap, ◌∙◌}
use Rattle.hop_machine.specs.declared.words.Who.TheVariants as whose
use Rattle.hop_machine.specs.step.Steps.{Deeds, Did, Seat, next_split_of}
use Rattle.hop_actor_tests.specs.Worlds.{shown}
use Rattle.hop_actor_tests.proofs.worlds.ask.Goals as goal

counted : (o : Option ℕ) (x : Seat) → (next_split_of o x).calls ≡ x.calls + 1
counted None x = refl
counted (Some i) x = refl

pub returns-clause-all : goal.returns-clause-all
returns-clause-all c =
    let r = c.plain_turn.ensures in let step = r.2 in
    c.ends_stay.ensures.all (shown c.args.world.now) (shown c.plain_turn.new.world)
    (ap (λ (d : Deeds). d.setup) r.3.1 ∙ step.setup) (ap (λ (d : Deeds). d.ends) r.3.1 ∙ step.ends) c.requires.all

pub returns-clause-calls : goal.returns-clause-calls
returns-clause-calls c =
    let r = c.plain_turn.ensures in let step = r.2 in
    ap (λ (d : Deeds). (d.did.seats (whose.Mapper 0)).calls) r.3.1 ∙ ap (λ (d : Did). (d.seats (whose.Mapper 0)).calls) step.did
    ∙ counted r.0 ((shown c.args.world.now).did.seats (whose.Mapper 0))
