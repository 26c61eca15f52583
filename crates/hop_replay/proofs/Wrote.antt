-- What the writer of a run wrote, in the words of what the run was given.
use Rattle.std.proofs.Common.{◌≡◌, ◌≢◌, ℕ, ◌≤◌, ◌<◌, true, List, [], map, sym, ap, ◌∙◌, subst, arith}
use Rattle.hop_actors.specs.declared.fault.Fault.{Fault}
use Rattle.hop_actors.specs.declared.fault.Fault.TheVariants as fault
use Rattle.hop_ending.specs.Cuts.{put_of, writings_of, ArePut, HasPut}
use Rattle.hop_ending.specs.Reached.{WroteReached}
use Rattle.hop_event.specs.declared.event.Event.{Event}
use Rattle.hop_event.specs.Agreement.{history_at}
use Rattle.hop_machine.specs.actors.ReducerTurns.{Writer, Writing}
use Rattle.hop_machine.specs.ending.Finishing.{AreHistories}
use Rattle.hop_machine.specs.home.ReducerHome.{cuts_of}
use Rattle.hop_machine.specs.home.Said.{history_of}
use Rattle.hop_machine.specs.home.Starts.{new_writer}
use Rattle.hop_machine.specs.play.FirstState.{IsNew}
use Rattle.hop_machine.specs.play.Play.{Halted, NoneLeft, Opening, Place, Went, World}
use Rattle.hop_machine.specs.run.AllHome.{IsStart}
use Rattle.hop_machine.specs.step.Steps.{Deeds, Setup}
use Rattle.hop_settle.specs.Playing.{EndsAt, orders_of}
use Rattle.hop_replay.specs.Given.{Given, setup_given}
use Rattle.hop_replay.specs.Snapshots.{Wrote, WroteUntil}
use Rattle.hop_replay.proofs.Drove.{LeavesCuts, spent-in}
use Rattle.hop_replay.proofs.Stopping.{spent-so}

-- the writer put the cuts of these histories, and nothing else
pub record WroteIn (s : Setup) (hs : List (List Event)) (ws : List Writing) : Type 0 where
  pub each : (p : ℕ) → p < s.reducers → writings_of p ws ≡ map (put_of p) (cuts_of s (history_at hs p))
  pub others : (p : ℕ) → s.reducers ≤ p → writings_of p ws ≡ []
  pub reached : WroteReached s ws
  pub put : ArePut s.reducers ws

pub wrote-in : (d : Deeds) (hs : List (List Event)) (ws : List Writing) → AreHistories d hs → ((p : ℕ) → p < d.setup.reducers → writings_of p ws ≡ map (put_of p) (cuts_of d.setup (history_of d p)))
    → ((p : ℕ) → d.setup.reducers ≤ p → writings_of p ws ≡ []) → WroteReached d.setup ws → ArePut d.setup.reducers ws → WroteIn d.setup hs ws
wrote-in d hs ws them cuts others reached put = record { each = λ p l. cuts p l ∙ ap (λ (h : List Event). map (put_of p) (cuts_of d.setup h)) (sym (them.each p l)); others = others; reached = reached; put = put }

no-split : (split : ℕ) → fault.NoMemory ≢ fault.SpentAt split
no-split split e = cc

none-is-halted : (split : ℕ) → NoneLeft split ≢ Halted
none-is-halted split e = cc

module _ (g : Given) where
  wrote-of : (begun : List ℕ) (hs : List (List Event)) (ws : List Writing) → WroteIn (setup_given g) hs ws → Wrote g (record { begun = begun; histories = hs }) ws
  wrote-of begun hs ws h = record { cuts = record { each = h.each; others = h.others }; reached = h.reached; put = h.put }

  pub wrote-so : (s : Setup) → s ≡ setup_given g → (begun : List ℕ) (hs : List (List Event)) (ws : List Writing) → WroteIn s hs ws → Wrote g (record { begun = begun; histories = hs }) ws
  wrote-so s same begun hs ws h = wrote-of begun hs ws (subst (λ (s : Setup). WroteIn s hs ws) same h)

  pub wrote-until : (a d : World) (f : Fault) (at : Place) → a.deeds.setup ≡ setup_given g → d.deeds.setup ≡ setup_given g → IsNew g.settings.backup a → IsStart g.settings.backup a.actors a.deeds
      → Went true (Opening 0 (orders_of g.turns), a) (at, d) → EndsAt f at → WroteReached a.deeds.setup d.actors.writer.writings → ((split : ℕ) → at ≡ NoneLeft split → LeavesCuts a.deeds.setup d)
      → (at ≢ Halted → HasPut d.actors.writer d.deeds.setup) → WroteUntil g f d.actors.writer.writings
  wrote-until a d f at sa sd new start went ends reached leaves put = record {
    reached = subst (λ (s : Setup). WroteReached s d.actors.writer.writings) sa reached;
    spent = λ split e.
        let place : at ≡ NoneLeft split = subst (λ (z : Fault). EndsAt z at) e ends in
        let goes : at ≢ Halted = λ (h : at ≡ Halted). none-is-halted split (sym place ∙ h) in (
          spent-in g a.deeds.setup sa d split (spent-so g.settings.backup (orders_of g.turns) a d f split start.set new start at went ends e) (leaves split place),
          subst (λ (s : Setup). ArePut s.reducers d.actors.writer.writings) sd (put goes).put,
        );
  }

  -- before its first turn it wrote nothing
  pub none-yet : (s : Setup) (x : Writer) → x ≡ new_writer s → WroteUntil g fault.NoMemory x.writings
  none-yet s x is =
      subst (λ (ws : List Writing). WroteUntil g fault.NoMemory ws) (ap (λ (w : Writer). w.writings) (sym is))
      (record { reached = λ k d l. absurd (omega (arith, l)); spent = λ split e. absurd (no-split split e) })
