use Rattle.std.proofs.Common.{ap, ◌∙◌, subst, List, ℕ}
use Rattle.hop_base.specs.Ranges.{AreLens, AreMarks}
use Rattle.hop_base.specs.Run.{ScriptLines, restarts_of}
use Rattle.hop_cover.specs.Table.{Table}
use Rattle.hop_shelf.specs.Journal.{IsBeginning}
use Rattle.hop_shelf.specs.Names.{rules_of, pairs_of}
use Rattle.hop_shelf.proofs.RecordLaws.{by_records}
use Rattle.hop_shelf.proofs.ShelfLaws.{empty_sound}
use Rattle.hop_shelf.proofs.shelf.Shelf.new.Goals as goal

pub invariant_of-result : goal.invariant_of-result
invariant_of-result g c =
    let marks = c.in_ok-marks.ensures.items ∙ c.as_slice.ensures.value ∙ c.requires.marks in
    let tentative = c.in_ok-coverage.ensures.wanted ∙ c.requires.tentative in
    let begins = subst (λ t. IsBeginning c.in_ok-coverage.coverage.lens t c.in_ok-restarts.restarts.items g.N.RunName.settings.marks c.in_ok-journal.journal) tentative
    (subst (λ (m : List ℕ). IsBeginning c.in_ok-coverage.coverage.lens c.in_ok-coverage.coverage.tentative c.in_ok-restarts.restarts.items m c.in_ok-journal.journal) marks c.in_ok-journal.ensures.begins) in
    empty_sound (rules_of g.N.RunName.records g.N.RunName.script g.N.RunName.settings) c.args.p g.N.RunName.settings.marks g.N.RunName.settings.tentative g.N.RunName.tells g.N.RunName.job.reduced (pairs_of g.N.RunName.job g.N.RunName.records g.N.RunName.settings c.args.p)
    c.in_ok-coverage.coverage.lens c.in_ok-restarts.restarts.items c.in_ok-journal.journal c.new-3.result.items begins
    (subst AreMarks c.requires.marks c.as_slice.ensures.ranges)
    (c.in_ok-coverage.ensures.lens ∙ c.requires.lens)
    (subst (λ (t : Table). AreLens t.lens) c.coverage.view_is c.coverage.invariant.ranges)
    (c.in_ok-restarts.ensures.items ∙ c.restarts.ensures ∙ ap (λ (script : ScriptLines). restarts_of script c.args.p) c.requires.script)
    c.requires.run.limit
    (by_records g.N.RunName.job g.N.RunName.records g.N.RunName.settings c.args.p c.requires.run)
    c.new-3.ensures.items
