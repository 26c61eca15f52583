-- A meet tells the ends of one lane of each other, and moves nothing else.
use Rattle.std.proofs.Common.{◌≡◌, ℕ, ◌&&◌, ◌==◌, Bool, true, false, refl, sym, ap, subst, if◌then◌else◌}
use Rattle.std.proofs.lemmas.Bool.{eqb-true, eq-eqb}
use Rattle.hop_machine.specs.step.Steps.{Deeds, shown, at1, at2}
use Rattle.hop_machine.specs.home.Said.{Met}
use Rattle.hop_machine.specs.play.Play.{Learns}
use Rattle.hop_machine.specs.settling.Meeting.{Meets, CutMeets, CutMet}

-- a place is the one that was written, or another
module _ {A : Type 0} (f : ℕ → ℕ → A) (g : ℕ → ℕ → A) (w p : ℕ) where
  written : (v q : ℕ) → f v q ≡ g v q → at2 f w p (g w p) v q ≡ g v q
  written v q same = of ((v == w) && (q == p)) refl
    where
      both : (s t : Bool) → (s && t) ≡ true → (s ≡ true) × (t ≡ true)
      both true t h = (refl, h)
      both false t h = cc

      of : (t : Bool) → ((v == w) && (q == p)) ≡ t → (if t then g w p else f v q) ≡ g v q
      of true h = let k = both (v == w) (q == p) h in λ i. g (sym (eqb-true v w k.0) i) (sym (eqb-true q p k.1) i)
      of false h = same

  here : at2 f w p (g w p) w p ≡ g w p
  here = (λ i. if (eq-eqb w w refl i && eq-eqb p p refl i) then g w p else f w p)

module _ {A : Type 0} (f : ℕ → A) (g : ℕ → A) (p : ℕ) where
  written_one : (q : ℕ) → f q ≡ g q → at1 f p (g p) q ≡ g q
  written_one q same = of (q == p) refl
    where
      of : (t : Bool) → (q == p) ≡ t → (if t then g p else f q) ≡ g q
      of true h = ap g (sym (eqb-true q p h))
      of false h = same

  here_one : at1 f p (g p) p ≡ g p
  here_one = λ i. if eq-eqb p p refl i then g p else f p

module _ (w p : ℕ) (a b : Deeds) (m : Meets w p a b) where
  pub meets-learns : (e : Bool) → Learns e a b
  meets-learns e = record {
    setup = ap (λ (d : Deeds). d.setup) m.changes;
    did = ap (λ (d : Deeds). d.did) m.changes;
    grows = m.grows;
    calm = ap (λ (d : Deeds). d.told.knows) m.changes;
    same = λ x. ap shown m.changes;
  }

  pub meets-met : Met b w p
  meets-met = subst (λ (d : Deeds). Met d w p) (sym m.changes) (record {
    taken = here a.told.taken (λ v q. (a.did.ins v q).taken) w p;
    sent = here a.told.sent (λ v q. (a.did.outs v q).sent) w p;
    begins = m.follows;
  })

  pub meets-others : (v q : ℕ) → Met a v q → Met b v q
  meets-others v q h = subst (λ (d : Deeds). Met d v q) (sym m.changes) (record {
    taken = written a.told.taken (λ v q. (a.did.ins v q).taken) w p v q h.taken;
    sent = written a.told.sent (λ v q. (a.did.outs v q).sent) w p v q h.sent;
    begins = h.begins;
  })

module _ (p : ℕ) (a b : Deeds) (m : CutMeets p a b) where
  pub cut_meets-learns : (e : Bool) → Learns e a b
  cut_meets-learns e = record {
    setup = ap (λ (d : Deeds). d.setup) m.changes;
    did = ap (λ (d : Deeds). d.did) m.changes;
    grows = m.grows;
    calm = ap (λ (d : Deeds). d.told.knows) m.changes;
    same = λ x. ap shown m.changes;
  }

  pub cut_meets-met : CutMet b p
  cut_meets-met = subst (λ (d : Deeds). CutMet d p) (sym m.changes) (record {
    taken = here_one a.told.cut_taken (λ q. (a.did.cut_ins q).taken) p;
    sent = here_one a.told.cut_sent (λ q. (a.did.cut_outs q).sent) p;
    begins = m.follows;
  })

  pub cut_meets-others : (q : ℕ) → CutMet a q → CutMet b q
  cut_meets-others q h = subst (λ (d : Deeds). CutMet d q) (sym m.changes) (record {
    taken = written_one a.told.cut_taken (λ q. (a.did.cut_ins q).taken) p q h.taken;
    sent = written_one a.told.cut_sent (λ q. (a.did.cut_outs q).sent) p q h.sent;
    begins = h.begins;
  })
