use Rattle.std.proofs.Common.{◌≡◌, ◌<◌, length, ◌∙◌, subst}
use Rattle.hop_event.specs.Coverage.{declared}
use Rattle.hop_cover.specs.Table.{Table, StandsFor}
use Rattle.hop_cover.proofs.TableLaws.{declared_read}
use Rattle.hop_cover.proofs.coverage.Coverage.at.Goals as goal

pub returns : goal.returns
returns c = λ h stands.
    subst (λ (t : Table). StandsFor t h → c.args.i < length t.lens → c.declared.result ≡ declared t.tentative h c.args.i) c.self.view_is
    (λ stands inside. c.declared.ensures ∙ declared_read c.self.inside.lens.items c.self.inside.tentative c.self.inside.rows.items c.self.inside.total c.self.invariant h c.args.i c.index-row.result.now inside c.index-row.ensures stands)
    stands c.requires
