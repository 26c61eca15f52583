use Rattle.std.proofs.Common.{◌≡◌, ◌<◌, length, subst, refl, arith, List}
use Rattle.hop_shelf.specs.declared.kept.Kept.{Kept}
use Rattle.hop_shelf.specs.Sound.{ShelfValue, Lends}
use Rattle.hop_shelf.specs.Kept.{kept_at}
use Rattle.hop_shelf.proofs.ShelfLaws.{mergeable_read, run_read}
use Rattle.hop_shelf.proofs.shelf.Shelf.lend.Goals as goal

pub returns-in_ok-second-in-Some : goal.returns-in_ok-second-in-Some
returns-in_ok-second-in-Some g c =
    let found = subst (λ (kept : List Kept). (c.in-Some.m < c.in-Some.n) × (c.in-Some.n < length kept) × ((kept_at kept c.in-Some.m).owner ≡ (kept_at kept c.in-Some.n).owner)) c.deref.ensures.value (rw c.in-Some.is at c.in_ok-pair_of_one_owner.ensures.found) in
    subst (λ (v : ShelfValue). Lends v c.new.result) c.self.view_is
    (rw c.new.ensures (
      refl,
      (
        c.in-Some.m,
        (
          c.in-Some.n,
          mergeable_read c.self.inside.kept.items c.in-Some.m c.in-Some.n c.index.result.now c.index-in-Some-2.result.now c.index-in-Some.result.now c.index-in-Some-3.result.now c.in_ok-first-in-Some.first c.in_ok-second-in-Some.second
              found c.index.ensures c.index-in-Some-2.ensures c.index-in-Some.ensures c.index-in-Some-3.ensures c.in_ok-first-in-Some.ensures c.in_ok-second-in-Some.ensures,
          run_read c.self.inside.kept.items c.in-Some.m c.index.result.now c.in_ok-first-in-Some.first (omega (arith, found.0, found.1)) c.index.ensures c.in_ok-first-in-Some.ensures,
          run_read c.self.inside.kept.items c.in-Some.n c.index-in-Some.result.now c.in_ok-second-in-Some.second found.1 c.index-in-Some.ensures c.in_ok-second-in-Some.ensures,
        ),
      ),
    ))
