use Rattle.std.proofs.Common.{◌≡◌, ℕ, true, List, [], ◌∷◌, ◌++◌, arith, sym, ap, ◌∙◌, subst}
use Rattle.hop_ports.specs.Memory.{memory_view}
use Rattle.hop_ports.specs.declared.memory.MemFolder.{MemFolder}
use Rattle.hop_start.specs.Given.{AreSpillFolders}
use Rattle.hop_actor_tests.specs.Runs.{no_files}
use Rattle.hop_actor_tests.proofs.Beginnings.{one_folder, two_folders}
use Rattle.hop_actor_tests.proofs.bench.folders.Goals as goal
use Rattle.hop_actor_tests.proofs.bench.folders.Goals.{then-workers-eq2+in_ok-push-2, else-workers-eq2}

moved : (n m : ℕ) (xs ys : List MemFolder) → n ≡ m → xs ≡ ys → AreSpillFolders true no_files m memory_view ys → AreSpillFolders true no_files n memory_view xs
moved n m xs ys e k h = subst (λ (z : ℕ × List MemFolder). AreSpillFolders true no_files z.0 memory_view z.1) {x = (m, ys)} {y = (n, xs)} (λ i. (sym e i, sym k i)) h

pub returns : goal.returns
returns c =
    let x : MemFolder = c.new.result in
    let first : c.push.new.self.items ≡ x ∷ [] = c.in_ok-push.ensures.items ∙ ap (λ (l : List MemFolder). l ++ x ∷ []) c.new-folders.ensures.items in
    elim c.if-workers-eq2.branch [
      | then-workers-eq2+in_ok-push-2 w ↦
          let y : MemFolder = w.new-then-workers-eq2-2.result in
          moved c.args.workers 2 c.if-workers-eq2.folders.items (x ∷ y ∷ []) w.if-workers-eq2.true
          (ap (λ v. v.items) w.folders-is ∙ w.in_ok-push-2.ensures.items ∙ ap (λ (l : List MemFolder). l ++ y ∷ []) first)
          (two_folders x y c.new.ensures.empty w.new-then-workers-eq2-2.ensures.empty)
      | else-workers-eq2 w ↦
          let other = w.if-workers-eq2.false in
          moved c.args.workers 1 c.if-workers-eq2.folders.items (x ∷ []) (omega (arith, other)) (ap (λ v. v.items) w.folders-is ∙ first) (one_folder x c.new.ensures.empty)
    ]
