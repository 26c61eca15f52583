use Rattle.std.proofs.Common.{◌≡◌, ◌<◌, List, subst, sym, ap, ◌∙◌, refl}
use Rattle.std.specs.Prelude.{All, IfOk}
use Rattle.hop_vault.specs.declared.kept.Kept.{Kept}
use Rattle.hop_vault.specs.Rows.{row_of, end_of, NoStretch}
use Rattle.hop_vault.specs.Vaults.{VaultValue, AreOfHeld}
use Rattle.hop_vault.proofs.ReadLaws.{stored_stretch, all_of_held}
use Rattle.hop_vault.proofs.StretchLaws.{All-stretch}
use Rattle.hop_vault.proofs.vault.Vault.fetch_flat.Goals as goal

pub read_all-requires-clause-stored : goal.read_all-requires-clause-stored
read_all-requires-clause-stored g c =
    stored_stretch (g.V.Folder.seen c.self.inside.folder).held c.self.inside.rows c.args.part.split c.args.part.attempt c.row-row.result.now c.args.part.from c.args.part.to _ c.self.invariant.stored c.row-row.ensures c.in-Some.ensures

pub read_all-requires-clause-within : goal.read_all-requires-clause-within
read_all-requires-clause-within g c =
    let row : row_of c.args.self.now.rows c.args.part.split c.args.part.attempt ≡ c.row-row.result.now = ap (λ (v : VaultValue _). row_of v.rows c.args.part.split c.args.part.attempt) (sym c.self.view_is) ∙ sym c.row-row.ensures in
    All-stretch (λ (kept : Kept). c.args.p < kept.sheets) c.row-row.result.now c.args.part.from c.args.part.to c.in-Some.spills.now c.in-Some.ensures (subst (λ (r : List Kept). All (λ (kept : Kept). c.args.p < kept.sheets) r) row c.requires)

pub returns-in-None-clause-cause : goal.returns-in-None-clause-cause
returns-in-None-clause-cause g c =
    let row : row_of c.args.self.now.rows c.args.part.split c.args.part.attempt ≡ c.row-row.result.now = ap (λ (v : VaultValue _). row_of v.rows c.args.part.split c.args.part.attempt) (sym c.self.view_is) ∙ sym c.row-row.ensures in
    (refl, c.end.ensures ∙ ap end_of (sym row), subst (λ (r : List Kept). NoStretch r c.args.part.from c.args.part.to) (sym row) c.in-None.ensures)

pub returns-in-Some-clause-held : goal.returns-in-Some-clause-held
returns-in-Some-clause-held g c =
    let of_held = all_of_held (g.V.Folder.seen c.self.inside.folder).held c.row-row.result.now c.args.part c.args.p c.in-Some.spills.now c.read_all.result c.in-Some.ensures c.read_all.ensures.found in
    subst (λ (v : VaultValue _). IfOk c.read_all.result (AreOfHeld (g.V.Folder.seen v.folder).held c.args.part c.args.p)) c.self.view_is of_held
