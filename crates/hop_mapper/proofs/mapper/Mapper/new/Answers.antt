use Rattle.std.proofs.Common.{◌≡◌, ◌∙◌, None, Some, sym, ap, subst}
use Rattle.std.specs.Prelude.{IfSome, slice_index_or}
use Rattle.hop_vault.specs.Vaults.{VaultValue}
use Rattle.hop_mapper.proofs.OnlySpilled.{only_first}
use Rattle.hop_mapper.proofs.Starting.{spilled_none, fits_none}
use Rattle.hop_mapper.proofs.mapper.Mapper.new.Goals as goal

pub invariant_of-result : goal.invariant_of-result
invariant_of-result g c =
    let R = g.N.RunName in let v = c.in_ok-state.ensures.vault in let vault = c.in_ok-state.state.vault in let held = (g.V.Folder.seen vault.folder).held in
    let rows = ap (λ (x : VaultValue g.row.V.Denot). x.rows) v in
    let start = subst (λ (x : VaultValue g.row.V.Denot). IfSome (g.V.Folder.seen x.folder).held (λ files. slice_index_or R.spills x.worker None ≡ Some files)) (sym v) c.requires.start in
    record {
      only = only_first (slice_index_or R.spills vault.worker None) held start;
      spilled = λ _. spilled_none R.job R.records R.settings held (slice_index_or R.spills vault.worker None) vault.rows (rows ∙ c.requires.vault) start;
    }

pub returns-clause-fits : goal.returns-clause-fits
returns-clause-fits g c = λ d.
    let R = g.N.RunName in fits_none R.job R.records R.settings R.tells g.K.Knowing.knows g.K.Knowing.board c.in_ok-state.state R.settings.reducers d (c.in_ok-state.ensures.held ∙ c.requires.press)
