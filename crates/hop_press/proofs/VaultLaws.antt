-- A vault that was only read, with no fault.
use Rattle.std.proofs.Common.{◌≡◌, ℕ, Option, refl, ◌∙◌, subst, arith}
use Rattle.hop_base.specs.Causes.{Rose}
use Rattle.hop_base.specs.Files.{Files}
use Rattle.hop_ports.specs.Views.{FolderView}
use Rattle.hop_ports.specs.Causes.{OnlyRead}
use Rattle.hop_vault.specs.Rows.{Table}
use Rattle.hop_vault.specs.Vaults.{VaultValue, IsDamaged, Collides as CollidesAt}
use Rattle.hop_press.specs.declared.fault.FlushFault.{FlushFault}
use Rattle.hop_press.specs.declared.fault.FlushFault.TheVariants.{SpillFailed, Damaged, Collides, NoMemory}
use Rattle.hop_press.specs.Faults.{FlushCause, FlushAnswered}

module _ {V : Type 0} (seen : V → FolderView) where
  -- nothing that is kept or held changed, and no count
  pub record SameVault (old new : VaultValue V) : Type 0 where
    pub rows : new.rows ≡ old.rows
    pub worker : new.worker ≡ old.worker
    pub read : OnlyRead (seen old.folder) (seen new.folder)
    pub gets : (seen new.folder).gets ≡ (seen old.folder).gets

  pub same_self : (v : VaultValue V) → SameVault v v
  same_self v = record { rows = refl; worker = refl; read = record { held = refl; gets = omega arith; puts = refl }; gets = refl }

  pub read_both : (a b c : VaultValue V) → OnlyRead (seen a.folder) (seen b.folder) → OnlyRead (seen b.folder) (seen c.folder) → OnlyRead (seen a.folder) (seen c.folder)
  read_both a b c g h = record { held = h.held ∙ g.held; gets = let t = g.gets in let u = h.gets in omega arith; puts = h.puts ∙ g.puts }

  pub same_both : (a b c : VaultValue V) → SameVault a b → SameVault b c → SameVault a c
  same_both a b c g h = record { rows = h.rows ∙ g.rows; worker = h.worker ∙ g.worker; read = read_both a b c g.read h.read; gets = h.gets ∙ g.gets }

  -- a fault of a later call is one of the whole
  pub cause_both : (a b c : VaultValue V) (p : ℕ) (fault : FlushFault) → SameVault a b → FlushCause seen b c p fault → FlushCause seen a c p fault
  cause_both a b c p SpillFailed g h = subst (λ n. Rose n (seen c.folder).gets) g.gets h
  cause_both a b c p (Damaged at kept found) g h =
      let Q : Option Files × Table → Type 0 = λ z. IsDamaged z.0 z.1 h.0 at kept found in
      (h.0, subst Q (λ i. (g.read.held i, g.rows i)) h.1)
  cause_both a b c p (Collides at place) g h =
      let Q : Option Files × Table → Type 0 = λ z. CollidesAt z.0 z.1 h.0 p at place in
      (h.0, subst Q (λ i. (g.read.held i, g.rows i)) h.1)
  cause_both a b c p NoMemory g h = tt

  pub answered_both : (a b c : VaultValue V) (fault : FlushFault) → SameVault a b → FlushAnswered (seen b.folder) (seen c.folder) fault → FlushAnswered (seen a.folder) (seen c.folder) fault
  answered_both a b c SpillFailed g h = tt
  answered_both a b c (Damaged at kept found) g h = h ∙ g.gets
  answered_both a b c (Collides at place) g h = h ∙ g.gets
  answered_both a b c NoMemory g h = h ∙ g.gets
