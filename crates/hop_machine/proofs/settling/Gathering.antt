-- Where the board's ends are gathered, no end does anything, and all but the mappers' ends of the board stay.
use Rattle.std.proofs.Common.{◌≡◌, ℕ, ◌&&◌, Bool, true, false, refl, sym, ap, ◌∙◌, subst}
use Rattle.hop_machine.specs.declared.words.Who.TheVariants as whose
use Rattle.hop_machine.specs.step.Steps.{BoardEnd, Deeds, rules_of}
use Rattle.hop_machine.specs.home.Conditions.{HasReducer, HasWriter}
use Rattle.hop_machine.specs.board.Board.{Gathered}
use Rattle.hop_machine.specs.play.Play.{Learns}
use Rattle.hop_machine.specs.settling.Meeting.{Gathers}
use Rattle.hop_machine.proofs.step.Told.{grows_self}

and_true : (x : Bool) → x ≡ true → (x && true) ≡ true
and_true true h = refl
and_true false h = h

and_false : (x : Bool) → (x && false) ≡ false
and_false true = refl
and_false false = refl

module _ (a b : Deeds) (g : Gathers a b) where
  pub gathers-learns : (e : Bool) → Learns e a b
  gathers-learns e = subst (λ (d : Deeds). Learns e a d) (sym g.changes) (record { setup = refl; did = refl; grows = grows_self a.told; calm = refl; same = λ x. refl })

  pub gathers-gathered : Gathered (rules_of b.setup) b
  gathers-gathered = subst (λ (d : Deeds). Gathered (rules_of d.setup) d) (sym g.changes) (record { words = g.gathered.words; rule = g.gathered.rule; knows = g.gathered.knows })

  pub gathers-reducer : (p : ℕ) → HasReducer p a → HasReducer p b
  gathers-reducer p h = subst (λ (d : Deeds). HasReducer p d) (sym g.changes) (record {
    ins = λ w l. and_true _ (h.ins w l);
    cut_out = and_true _ h.cut_out;
    board = and_true _ h.board;
    keep = and_true _ h.keep;
  })

  pub gathers-writer : HasWriter a → HasWriter b
  gathers-writer h = subst (λ (d : Deeds). HasWriter d) (sym g.changes) (record { cut_ins = λ p l. and_true _ (h.cut_ins p l); board = and_true _ h.board })

  pub gathers-none : (w : ℕ) → b.ends.has (BoardEnd (whose.Mapper w)) ≡ false
  gathers-none w = ap (λ (d : Deeds). d.ends.has (BoardEnd (whose.Mapper w))) g.changes ∙ and_false (a.ends.has (BoardEnd (whose.Mapper w)))
