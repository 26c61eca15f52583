use Rattle.std.proofs.Common.{◌≤◌, ◌++◌, ◌∷◌, ℕ, List, length, sym, ap, ◌∙◌, subst, arith}
use Rattle.std.specs.Prelude.{All, map}
use Rattle.std.proofs.lemmas.List.{length-map}
use Rattle.hop_jobs.specs.Known.{known_meaning}
use Rattle.hop_writer.proofs.LaterLaws.{few_parts, pushed}
use Rattle.hop_top.specs.Runs.{later_parts}
use Rattle.hop_top.proofs.PartLaws.{chained-count}
use Rattle.hop_top.proofs.ending.run_files.Goals as goal

pub later_parts-requires-clause-few : goal.later_parts-requires-clause-few
later_parts-requires-clause-few c =
    let all = ap length (c.deref.ensures.value ∙ c.in_ok-all.ensures) in
    let count = chained-count (map known_meaning c.args.jobs.now) c.args.texts c.args.r in
    omega (arith, all, count, length-map c.args.jobs.now known_meaning, c.requires.jobs)

pub later_parts-requires-clause-parts : goal.later_parts-requires-clause-parts
later_parts-requires-clause-parts c =
    subst (All (λ (texts : List (List ℕ)). length texts ≤ 255)) (sym (c.deref.ensures.value ∙ c.in_ok-all.ensures)) (few_parts (map known_meaning c.args.jobs.now) c.args.texts c.args.r (omega (arith, c.requires.most)))

-- the part files, the trace, and those of the later jobs
pub returns-clause-files : goal.returns-clause-files
returns-clause-files c =
    let all = c.deref.ensures.value ∙ c.in_ok-all.ensures in
    c.in_ok-later_parts.ensures
    ∙ pushed c.in_ok-files.files.items c.in_ok-trace.trace c.push.new.self.items (later_parts 2 c.deref.result.now) c.in_ok-push.ensures.items
    ∙ (λ i. c.in_ok-files.ensures i ++ c.in_ok-trace.ensures.file i ∷ later_parts 2 (all i))
