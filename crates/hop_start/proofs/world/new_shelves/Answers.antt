use Rattle.std.proofs.Common.{◌≡◌, ◌+◌, arith, [], sym, ap, ◌∙◌}
use Rattle.std.specs.List.{range_with_len}
use Rattle.hop_base.specs.Run.{RunSettings}
use Rattle.hop_event.specs.Coverage.{first_reached}
use Rattle.hop_shelf.specs.Sound.{ShelfValue}
use Rattle.hop_machine.specs.step.Steps.{Setup}
use Rattle.hop_inner.specs.Setups.{setup_of}
use Rattle.hop_inner.specs.Shelved.{value_of}
use Rattle.hop_crew.specs.Unused.{first_value}
use Rattle.hop_start.proofs.Filling.{numbers-more, longer, All-more, map-more}
use Rattle.hop_start.proofs.world.new_shelves.Goals as goal

pub loop-p-preserved : goal.loop-p-preserved
loop-p-preserved g c =
    let setup : Setup = setup_of g.N.RunName.records g.N.RunName.script g.N.RunName.settings in
    let xs = c.loop-p.shelves.items in let x : ShelfValue = c.in_ok-shelf.shelf in let e = c.in_ok-shelf.ensures in let was = c.loop-p.invariant in
    let items = c.in_ok-push.ensures.items in let own = c.requires.given.counted.settings_are in let lens = c.requires.given.counted.lens_are in
    let first : value_of x ≡ first_value setup =
    λ i. record { events = e.journal.events i; due = (e.journal.due ∙ (λ j. first_reached (own j).tentative (lens j) (own j).marks [])) i } in
    record {
      count = longer xs _ x items ∙ (λ i. was.count i + 1);
      values = All-more xs _ x items (λ (s : ShelfValue). value_of s ≡ first_value setup) was.values first;
      numbers = map-more xs _ x items (λ (s : ShelfValue). s.p) (range_with_len 0 c.loop-p.p) c.loop-p.p was.numbers e.p ∙ numbers-more c.loop-p.p;
    }

pub returns : goal.returns
returns g c =
    let own = ap (λ (s : RunSettings). s.reducers) c.requires.given.counted.settings_are in
    let all : c.loop-p.p ≡ g.N.RunName.settings.reducers = omega arith in let was = c.loop-p.invariant in
    record {
      count = was.count ∙ all;
      first = record { values_are = was.values; numbers_are = was.numbers ∙ ap (range_with_len 0) (sym was.count) };
    }
