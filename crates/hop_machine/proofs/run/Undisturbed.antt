-- What no step of the pulls of settling disturbs.
use Rattle.std.proofs.Common.{◌≡◌, ℕ, ◌<◌, Bool, sym, ap, ◌∙◌, subst, Option}
use Rattle.hop_machine.specs.declared.words.Who.{Who}
use Rattle.hop_machine.specs.declared.words.Who.TheVariants as whose
use Rattle.hop_machine.specs.declared.words.Message.{Message}
use Rattle.hop_machine.specs.step.Steps.{Deeds, Did, Setup, Sent, Taken, Verdicts, Runs, rules_of}
use Rattle.hop_machine.specs.actors.ReducerTurns.{Reducer, finish}
use Rattle.hop_machine.specs.board.Board.{Gathered}
use Rattle.hop_machine.specs.play.Play.{Actors, Learns, pull_split}
use Rattle.hop_machine.specs.run.AllHome.{AllHome, AllNoneDue, AllEnded, AllEmptied, WorkIsDone}
use Rattle.hop_machine.proofs.actors.LockCalls.{lock-only_own, lock-only_calm, lock-only_none, of_split, of_finish}
use Rattle.hop_machine.proofs.board.Calm.{Gathered-runs}
use Rattle.hop_machine.proofs.settling.Takes.{Runs-no_take}
use Rattle.hop_machine.proofs.run.Moving.{Runs-moved}
use Rattle.hop_machine.proofs.run.AllMoving.{no_mapper}

-- # What no step of these places disturbs

pub record Undisturbed (a b : Deeds) : Type 0 where
  pub setup : b.setup ≡ a.setup
  pub outs : (w p : ℕ) → b.did.outs w p ≡ a.did.outs w p
  pub ins : (w p : ℕ) → b.did.ins w p ≡ a.did.ins w p
  pub gathered : Gathered (rules_of a.setup) a → Gathered (rules_of a.setup) b

still-emptied : (a b : Deeds) → Undisturbed a b → AllEmptied a → AllEmptied b
still-emptied a b u h w p lw lp =
    let f = h w p (subst (λ (s : Setup). w < s.workers) u.setup lw) (subst (λ (s : Setup). p < s.reducers) u.setup lp) in
    ap (λ (k : Taken Message). k.taken) (u.ins w p) ∙ f ∙ ap (λ (k : Sent Message). k.sent) (sym (u.outs w p))

pub still-ends : (x y : Actors) (a b : Deeds) → Undisturbed a b → WorkIsDone x a → AllHome y b → AllNoneDue b → AllEnded y → WorkIsDone y b
still-ends x y a b u h home none ended = record {
  home = home;
  none = none;
  ended = ended;
  emptied = still-emptied a b u h.emptied;
  gathered = subst (λ (s : Setup). Gathered (rules_of s) b) (sym u.setup) (u.gathered h.gathered);
}

pub told-undisturbed : (e : Bool) (a b : Deeds) → Learns e a b → Undisturbed a b
told-undisturbed e a b l = record {
  setup = l.setup;
  outs = λ w p. ap (λ (k : Did). k.outs w p) l.did;
  ins = λ w p. ap (λ (k : Did). k.ins w p) l.did;
  gathered = λ g. record {
    words = g.words;
    rule = subst (λ (k : Did). Rattle.hop_machine.specs.board.Board.BoardRule (rules_of a.setup) g.words (λ w. k.seats (whose.Mapper w))) (sym l.did) g.rule;
    knows = λ who. subst (λ (k : Who → Verdicts). Rattle.hop_machine.specs.board.Board.StandsIn g.words (k who)) (sym l.calm) (g.knows who);
  };
}

module _ (e : Bool) (r : Reducer) (a b : Deeds) where
  pub split-undisturbed : (i : ℕ) (y : Reducer × Option Bool) → Runs e (pull_split i r) a y b → Undisturbed a b
  split-undisturbed i y run =
      let z = Runs-moved (whose.Reducer r.number) e (pull_split i r) a b y (lock-only_own r (pull_split i r) (of_split r i)) run in
      let t = Runs-no_take e (pull_split i r) a b y (lock-only_none r (pull_split i r) (of_split r i)) run in
      record {
        setup = z.acted.only.setup;
        outs = λ w p. z.acted.only.outs w p (no_mapper r.number w);
        ins = λ w p. ap (λ (k : ℕ → ℕ → Taken Message). k w p) t.ins;
        gathered = Gathered-runs (rules_of a.setup) e (pull_split i r) a y b run (lock-only_calm r (pull_split i r) (of_split r i));
      }

  pub finish-undisturbed : (ok : Bool) → Runs e (finish r) a ok b → Undisturbed a b
  finish-undisturbed ok run =
      let z = Runs-moved (whose.Reducer r.number) e (finish r) a b ok (lock-only_own r (finish r) (of_finish r)) run in
      let t = Runs-no_take e (finish r) a b ok (lock-only_none r (finish r) (of_finish r)) run in
      record {
        setup = z.acted.only.setup;
        outs = λ w p. z.acted.only.outs w p (no_mapper r.number w);
        ins = λ w p. ap (λ (k : ℕ → ℕ → Taken Message). k w p) t.ins;
        gathered = Gathered-runs (rules_of a.setup) e (finish r) a ok b run (lock-only_calm r (finish r) (of_finish r));
      }
