use Rattle.std.proofs.Common.{rules, ◌≡◌, ◌∙◌, map, length, sym, ap}
use Rattle.hop_machine.specs.step.Steps.{Setup}
use Rattle.hop_settle.specs.Crews.{actors_of}
use Rattle.hop_settle.proofs.BegunLaws.{counted-begun}
use Rattle.hop_settle.proofs.ending.finish_all.Goals as goal

pub pull_and_finish-requires-clause-begun : goal.pull_and_finish-requires-clause-begun
pull_and_finish-requires-clause-begun g c = λ rs x.
    let E = g.E.Reach in let d = E.deeds c.args.reach.now in
    let count : length c.count_begun.new.begun ≡ length c.as_slice-splits.result.now = search rules in
    counted-begun (actors_of (map g.M.Store.mapper c.args.mappers.now.items) rs x) d.setup c.requires.home.1.ends.home.workers c.count_begun.new.begun
    (count ∙ ap length (c.as_slice-splits.ensures.value ∙ c.lens.ensures ∙ sym (ap (λ (s : Setup). s.lens) (g.met.E.Reach.of_run c.args.reach.now)))) c.count_begun.ensures.counted
