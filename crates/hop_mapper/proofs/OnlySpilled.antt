-- Only files of spills are put in a mapper's folder.
use Rattle.std.proofs.Common.{◌≡◌, ℕ, inl, inr, List, Option, Some, None, refl, sym, ap, ◌∙◌, subst}
use Rattle.std.specs.Prelude.{IfSome, IfErr, OnOk, Result, Ok, Err}
use Rattle.hop_base.specs.Files.{Files}
use Rattle.hop_ports.specs.Views.{FolderView, with_file}
use Rattle.hop_spill.specs.declared.spill.Spill.{Spill}
use Rattle.hop_spill.specs.SpillFiles.{name_of}
use Rattle.hop_vault.specs.declared.kept.KeepFault.{KeepFault}
use Rattle.hop_vault.specs.declared.kept.KeepFault.TheVariants as fault
use Rattle.hop_vault.specs.Rows.{Table}
use Rattle.hop_vault.specs.Vaults.{VaultValue, IsKeptIn, KeepCause}
use Rattle.hop_actors.specs.Spilled.{OnlySpills}
use Rattle.hop_mapper.proofs.Keeping.{get_other}

-- none was put
pub only_same : (before now : Option Files) → now ≡ before → OnlySpills before now
only_same before None e = tt
only_same before (Some files) e = (files, sym e, λ name other. refl)

-- of a vault that is as before
pub only_vault : {V : Type 0} (seen : V → FolderView) (before now : VaultValue V) → now ≡ before → OnlySpills (seen before.folder).held (seen now.folder).held
only_vault {V} seen before now e = only_same (seen before.folder).held (seen now.folder).held (ap (λ (v : VaultValue V). (seen v.folder).held) e)

-- so it is at first
pub only_first : (start held : Option Files) → IfSome held (λ files. start ≡ Some files) → OnlySpills start held
only_first start None e = tt
only_first start (Some files) e = (files, e, λ name other. refl)

-- and over two stretches if over each
pub only_both : (a b c : Option Files) → OnlySpills a b → OnlySpills b c → OnlySpills a c
only_both a b None h k = tt
only_both a b (Some files) h k =
    let t : OnlySpills a (Some k.0) = subst (λ (o : Option Files). OnlySpills a o) k.1 h in
    (t.0, t.1, λ name other. k.2 name other ∙ t.2 name other)

-- the file of a spill is put
only_file : (before : Option Files) (split attempt from : ℕ) (text : List ℕ) → OnlySpills before (with_file before (name_of split attempt from) text)
only_file None split attempt from text = tt
only_file (Some files) split attempt from text = (files, refl, λ name other. get_other files name (name_of split attempt from) text (λ e. other (split, attempt, from, e)))

only_put : (before now : Option Files) (split attempt from : ℕ) (text : List ℕ) → now ≡ with_file before (name_of split attempt from) text → OnlySpills before now
only_put before now split attempt from text e = subst (λ (o : Option Files). OnlySpills before o) (sym e) (only_file before split attempt from text)

-- a spill was to be kept: its file is put, or nothing is
pub only_kept : (old new : FolderView) (before after : Table) (spill : Spill) (result : Result (Unit {0}) KeepFault) → OnOk result (IsKeptIn old new before after spill) → IfErr result (KeepCause old new before after spill) → OnlySpills old.held new.held
only_kept old new before after spill (Ok u) kept cause = only_put old.held new.held spill.split spill.attempt spill.from _ kept.held
only_kept old new before after spill (Err fault.NoMemory) kept cause = only_same old.held new.held cause.1
only_kept old new before after spill (Err fault.StoreFailed) kept cause =
    elim cause.2 [
      | inl e ↦ only_same old.held new.held e
      | inr e ↦ only_put old.held new.held spill.split spill.attempt spill.from _ e
    ]
