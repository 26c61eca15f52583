use Rattle.std.proofs.Common.{sym, ap, ◌∙◌}
use Rattle.hop_spill.specs.Spelling.{spill_in}
use Rattle.hop_vault.specs.Rows.{kept_end}
use Rattle.hop_vault.specs.Vaults.{VaultValue}
use Rattle.hop_vault.proofs.SoundLaws.{sound_after}
use Rattle.hop_vault.proofs.vault.Vault.keep_flat.Goals as goal

pub invariant_of-self : goal.invariant_of-self
invariant_of-self g c =
    let seen = g.V.Folder.seen in
    let next = c.requires.next ∙ ap (λ (v : VaultValue _). kept_end v.rows c.args.spill.now.split c.args.spill.now.attempt) (sym c.self.view_is) in
    sound_after (seen c.self.inside.folder) (seen c.store.new.folder) c.self.inside.rows c.store.new.rows (spill_in c.args.spill.now) c.store.result c.requires.spill next c.self.invariant c.store.ensures.kept c.store.ensures.cause
