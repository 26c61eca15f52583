use Rattle.std.proofs.Common.{◌≡◌, ℕ, arith, [], ◌∷◌, ◌++◌, map, sym, ap, ◌∙◌}
use Rattle.std.specs.List.{range_with_len}
use Rattle.std.proofs.lemmas.List.FromFn.{map-range_with_len_more}
use Rattle.hop_base.specs.Run.{RunSettings}
use Rattle.hop_machine.specs.actors.ReducerTurns.{Reducer}
use Rattle.hop_machine.specs.home.Starts.{new_reducer}
use Rattle.hop_inner.specs.Setups.{setup_of}
use Rattle.hop_start.proofs.reducers.new_reducers.Goals as goal

pub loop-p-preserved : goal.loop-p-preserved
loop-p-preserved g c =
    let f : ℕ → Reducer = λ p. new_reducer p (setup_of g.N.RunName.records g.N.RunName.script g.N.RunName.settings) in
    c.in_ok-push.ensures.items ∙ (λ i. c.loop-p.invariant i ++ c.new.ensures i ∷ []) ∙ sym (map-range_with_len_more f 0 c.loop-p.p c.loop-p.p (omega arith))

pub returns : goal.returns
returns g c =
    let f : ℕ → Reducer = λ p. new_reducer p (setup_of g.N.RunName.records g.N.RunName.script g.N.RunName.settings) in
    let own = ap (λ (s : RunSettings). s.reducers) c.requires.given.settings_are in
    let all : c.loop-p.p ≡ g.N.RunName.settings.reducers = omega arith in
    c.loop-p.invariant ∙ ap (λ n. map f (range_with_len 0 n)) all
