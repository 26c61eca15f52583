use Rattle.std.proofs.Common.{◌≤◌, ℕ, List, sym, ◌∙◌, subst, length, arith}
use Rattle.std.specs.Prelude.{All, map}
use Rattle.hop_jobs.specs.Known.{known_meaning}
use Rattle.hop_writer.proofs.LaterLaws.{few_parts}
use Rattle.hop_writer.proofs.later.add_later.Goals as goal

pub later_files-requires-clause-parts : goal.later_files-requires-clause-parts
later_files-requires-clause-parts c =
    subst (All (λ (texts : List (List ℕ)). length texts ≤ 255)) (sym (c.deref.ensures.value ∙ c.in_ok-all-in-Some.ensures)) (few_parts (map known_meaning c.args.jobs.now) c.in-Some.bodies c.args.r (omega (arith, c.requires.most)))
