use Rattle.std.proofs.Common.{◌≡◌, ◌<◌, ℕ, false, length, get_or, arith, subst}
use Rattle.std.proofs.lemmas.Option.{slice_get-get_or}
use Rattle.hop_machine.specs.home.Starts.{new_reducer}
use Rattle.hop_inner.specs.Setups.{setup_of}
use Rattle.hop_crew.specs.PlainWorlds.{deeds_of}
use Rattle.hop_actor_tests.proofs.bench.Bench.into_history.Goals as goal

pub hold-requires-clause-free : goal.hold-requires-clause-free
hold-requires-clause-free g c =
    let n = g.N.RunName in let setup = setup_of n.records n.script n.settings in let rs = c.self.inside.reducers.items in
    let h = (c.self.invariant c.if-self.false).ready.home in
    let some : 0 < length rs = let a = h.reducers in let b = h.set.reducers in omega (arith, a, b) in
    let k = h.reducer 0 (get_or rs 0 (new_reducer 0 setup)) (slice_get-get_or rs 0 (new_reducer 0 setup) some) in
    subst (λ (p : ℕ). ((deeds_of setup c.self.inside.world).did.keeps p).held ≡ false) k.number k.home.free
