use Rattle.std.proofs.Common.{◌≡◌, ◌<◌, ◌-◌, Some, None, sym, ap, subst}
use Rattle.hop_machine.specs.step.Steps.{Steps, Runs, Take}
use Rattle.hop_machine.specs.declared.words.Turn.{Turn}
use Rattle.hop_machine.specs.actors.ReducerTurns.{Reducer, reads, looks, lane_after}
use Rattle.hop_machine.specs.home.Conditions.{Safe, May}
use Rattle.hop_inner.specs.Setups.{parts}
use Rattle.hop_inner.specs.Messages.{said}
use Rattle.hop_drain.specs.Answers.{said_answer}
use Rattle.hop_drain.specs.Drains.{served}
use Rattle.hop_drain.proofs.Safety.{held_on}
use Rattle.hop_drain.proofs.Lanes.{looks_may, some_safe, none_safe, some_ran, none_ran}
use Rattle.hop_drain.proofs.drain.Drain.look.Goals as goal

pub take_on-requires : goal.take_on-requires
take_on-requires g c =
    let l = c.loop-left in let r = c.args.self.now in
    subst (λ p. May parts (Take l.w p) (g.E.Reach.deeds l.reach)) (sym (ap (λ (r : Reducer). r.number) c.self.view_is))
    (looks_may g.E.Reach.exact r c.args.shelf.journal.events l.left l.w (g.E.Reach.deeds l.reach) c.loop-left-test.true l.invariant.safe)

pub serve-requires-clause-safe : goal.serve-requires-clause-safe
serve-requires-clause-safe g c =
    let l = c.loop-left in let r = c.args.self.now in let e = g.E.Reach.exact in let a = g.E.Reach.deeds l.reach in let b = g.E.Reach.deeds c.take_on.new.reach in let m = said c.in-Some.message in let h = c.args.shelf.journal.events in
    let st : Steps e (Take l.w r.number) (Some m) a b = subst (λ p. Steps e (Take l.w p) (Some m) a b) (ap (λ (r : Reducer). r.number) c.self.view_is) c.in-Some.ensures.step in
    subst (λ (q : Reducer). Safe parts e (reads (served q l.w) l.w h m) b) (sym l.invariant.same) (some_safe e r h l.left l.w m a b c.loop-left-test.true st l.invariant.safe)

pub returns-in-Some : goal.returns-in-Some
returns-in-Some g c =
    let l = c.loop-left in let r = c.args.self.now in let e = g.E.Reach.exact in let a = g.E.Reach.deeds l.reach in let b = g.E.Reach.deeds c.take_on.new.reach in let m = said c.in-Some.message in let h = c.args.shelf.journal.events in
    let d = g.E.Reach.deeds c.serve.new.reach in let x : Reducer × Turn = (c.serve.new.self, said_answer c.serve.result) in
    let st : Steps e (Take l.w r.number) (Some m) a b = subst (λ p. Steps e (Take l.w p) (Some m) a b) (ap (λ (r : Reducer). r.number) c.self.view_is) c.in-Some.ensures.step in
    let ran : Runs e (reads (served r l.w) l.w h m) b x d = subst (λ (q : Reducer). Runs e (reads (served q l.w) l.w h m) b x d) l.invariant.same c.serve.ensures in
    l.invariant.completes x d (some_ran e r h l.left l.w m a b d x c.loop-left-test.true st ran)

pub loop-left-preserved : goal.loop-left-preserved
loop-left-preserved g c =
    let l = c.loop-left in let r = c.args.self.now in let e = g.E.Reach.exact in let a = g.E.Reach.deeds l.reach in let b = g.E.Reach.deeds c.take_on.new.reach in let h = c.args.shelf.journal.events in
    let st : Steps e (Take l.w r.number) None a b = subst (λ p. Steps e (Take l.w p) None a b) (ap (λ (r : Reducer). r.number) c.self.view_is) c.in-None.ensures.step in
    let next : lane_after r.setup.workers l.w ≡ c.lane_after-w.result = sym (subst (λ (q : Reducer). c.lane_after-w.result ≡ lane_after q.setup.workers l.w) l.invariant.same c.lane_after-w.ensures.next) in
    record {
      same = l.invariant.same;
      lane = subst (λ (q : Reducer). c.lane_after-w.result < q.setup.workers) l.invariant.same c.lane_after-w.ensures.below;
      held = held_on r.number c.args.shelf a b (λ i. (st.did i).keeps) l.invariant.held;
      safe = subst (λ n. Safe parts e (looks r h (l.left - 1) n) b) next (none_safe e r h l.left l.w a b c.loop-left-test.true st l.invariant.safe);
      completes = λ x d k. l.invariant.completes x d (none_ran e r h l.left l.w a b d x c.loop-left-test.true st (subst (λ n. Runs e (looks r h (l.left - 1) n) b x d) (sym next) k));
    }
