use Rattle.std.proofs.Common.{not, refl, ap, ◌∙◌}
use Rattle.std.specs.Prelude.{is_some}
use Rattle.hop_script.proofs.DraftLemmas.{fail_named, restart_named, delay_named, fail_added, restart_added, delay_added, first_of_none, fresh_of_first}
use Rattle.hop_script.proofs.draft.Draft.add.Goals as goal

pub returns-in_ok-before-in-Fail-clause-first : goal.returns-in_ok-before-in-Fail-clause-first
returns-in_ok-before-in-Fail-clause-first c = λ lines kept.
    let arm = c.in-Fail in
    let named = ap is_some c.in_ok-before-in-Fail.ensures.old ∙ fail_named c.args.self.now lines arm.split arm.attempt arm.at kept in
    rw arm.is (first_of_none _ c.is_none.result c.is_none.ensures ∙ ap not named)

pub returns-in_ok-before-in-Fail-clause-added : goal.returns-in_ok-before-in-Fail-clause-added
returns-in_ok-before-in-Fail-clause-added c = λ lines kept first.
    let arm = c.in-Fail in
    let named = ap is_some c.in_ok-before-in-Fail.ensures.old ∙ fail_named c.args.self.now lines arm.split arm.attempt arm.at kept in
    let fresh = fresh_of_first c.is_none.result _ (first_of_none _ c.is_none.result c.is_none.ensures ∙ ap not named) first in
    rw arm.is (fail_added c.args.self.now _ lines arm.split arm.attempt arm.at kept fresh c.in_ok-before-in-Fail.ensures.entries refl refl)

pub returns-in_ok-first-in-Restart-clause-first : goal.returns-in_ok-first-in-Restart-clause-first
returns-in_ok-first-in-Restart-clause-first c = λ lines kept.
    let arm = c.in-Restart in
    rw arm.is (c.in_ok-first-in-Restart.ensures.added ∙ ap not (restart_named c.args.self.now lines arm.partition arm.arrivals kept))

pub returns-in_ok-first-in-Restart-clause-added : goal.returns-in_ok-first-in-Restart-clause-added
returns-in_ok-first-in-Restart-clause-added c = λ lines kept first.
    let arm = c.in-Restart in
    let fresh = fresh_of_first c.in_ok-first-in-Restart.first _ (c.in_ok-first-in-Restart.ensures.added ∙ ap not (restart_named c.args.self.now lines arm.partition arm.arrivals kept)) first in
    let below = rw arm.is at c.requires in
    rw arm.is (restart_added c.args.self.now _ lines arm.partition arm.arrivals kept below fresh c.in_ok-first-in-Restart.ensures.keys refl refl)

pub returns-in_ok-before-in-Delay-clause-first : goal.returns-in_ok-before-in-Delay-clause-first
returns-in_ok-before-in-Delay-clause-first c = λ lines kept.
    let arm = c.in-Delay in
    let named = ap is_some c.in_ok-before-in-Delay.ensures.old ∙ delay_named c.args.self.now lines arm.worker arm.turns kept in
    rw arm.is (first_of_none _ c.is_none-in-Delay.result c.is_none-in-Delay.ensures ∙ ap not named)

pub returns-in_ok-before-in-Delay-clause-added : goal.returns-in_ok-before-in-Delay-clause-added
returns-in_ok-before-in-Delay-clause-added c = λ lines kept first.
    let arm = c.in-Delay in
    let named = ap is_some c.in_ok-before-in-Delay.ensures.old ∙ delay_named c.args.self.now lines arm.worker arm.turns kept in
    let fresh = fresh_of_first c.is_none-in-Delay.result _ (first_of_none _ c.is_none-in-Delay.result c.is_none-in-Delay.ensures ∙ ap not named) first in
    rw arm.is (delay_added c.args.self.now _ lines arm.worker arm.turns kept fresh c.in_ok-before-in-Delay.ensures.entries refl refl)
