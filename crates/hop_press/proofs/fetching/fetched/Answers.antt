use Rattle.std.proofs.Common.{sym, subst}
use Rattle.hop_base.specs.Meaning.{Meaning}
use Rattle.hop_base.specs.Order.{pair_cmp}
use Rattle.hop_base.specs.Sorted.{ord}
use Rattle.hop_laws.specs.Stands.{StandsFor}
use Rattle.hop_run.specs.Runs.{RunStands}
use Rattle.hop_shelf.specs.Names.{pairs_of}
use Rattle.hop_press.specs.Faults.{pairs_in}
use Rattle.hop_press.proofs.FetchedLaws.{held_stands, fits_parcel}
use Rattle.hop_press.proofs.fetching.fetched.Goals as goal

pub returns-in-Ok-joined-clause-fits : goal.returns-in-Ok-joined-clause-fits
returns-in-Ok-joined-clause-fits g c =
    let N = g.N.RunName in
    let vault = c.args.vault.now in
    let pairs = pairs_of N.job N.records N.settings c.args.p in
    let Stands : Meaning → Type 0 = λ m. StandsFor m.reduced (ord pair_cmp (pairs_in c.in-Ok.sheets)) (pairs c.args.part) in
    let RunDoes : Meaning → Type 0 = λ m. RunStands m.reduced pairs c.in-Ok-joined.run' in
    fits_parcel N.tells N.job.reduced pairs c.args.part c.in-Ok-joined.run' c.in-Ok-joined.ensures.parts c.requires.whole.stretch.some c.in-Ok-joined.ensures.valid
    (λ told. subst RunDoes c.requires.job
    (c.in-Ok-joined.ensures.stands pairs
    (λ each. subst Stands (sym c.requires.job)
    (held_stands N.job N.records N.settings c.requires.run (g.V.Folder.seen vault.folder).held vault.rows c.args.part c.args.p c.in-Ok.sheets c.requires.below c.requires.keeps c.requires.whole c.in-Ok.ensures.held (c.requires.tells told) each))))
