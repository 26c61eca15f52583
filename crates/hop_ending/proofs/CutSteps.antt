-- Over exact ends the writer takes the first of what was sent to a cut lane, and where it is idle it took all.
use Rattle.std.proofs.Common.{◌≡◌, ℕ, zero, suc, ◌-◌, ◌+◌, ◌≤◌, ◌<◌, ◌==◌, Bool, true, false, List, [], ◌∷◌, ◌++◌, append_assoc, append-nil, drop, length, refl, sym, ap, ◌∙◌, subst, cond, Option, Some, None, ⊎_elim, arith}
use Rattle.std.proofs.lemmas.Bool.{eqb-true}
use Rattle.std.proofs.Math.Seq.{drop-append_seam}
use Rattle.hop_machine.specs.declared.words.Turn.{Turn}
use Rattle.hop_machine.specs.declared.words.Turn.TheVariants.{Idle}
use Rattle.hop_machine.specs.step.Steps.{Step, Found, Send, Take, NextSplit, Draw, Commit, Revoke, AskWinner, AskRevoked, Join, TryHold, Hold, Record, GiveBack, SendCut, TakeCut, Risk, Sent, Taken, CutSaid, Did, Deeds, Setup, Prog, Done, Then, Steps, Runs, Begins, sending, taking, after, first}
use Rattle.hop_machine.specs.actors.ReducerTurns.{Writer, lane_after, wrote, works, writes, writer_turn}
use Rattle.hop_machine.proofs.settling.Idles.{IsAmong, among_next, all_among}
use Rattle.hop_machine.proofs.settling.ReducerFalls.{below}
use Rattle.hop_ending.specs.Cuts.{HasPut}

-- # Lists

module _ {A : Type 0} where
  -- what is left of a list behind its beginning
  pub left_behind : (xs ys : List A) → Begins xs ys → (more : List A) × (ys ≡ xs ++ more) × (drop (length xs) ys ≡ more)
  left_behind xs ys b = (b.0, b.1, ap (drop (length xs)) b.1 ∙ drop-append_seam xs b.0)

  pub took_more : (x : Taken A) (ys : List A) (o : Option A) → Begins x.taken ys → o ≡ first (drop (length x.taken) ys) → Begins (taking o x).taken ys
  took_more x ys None b e = b
  took_more x ys (Some c) b e = let t = left_behind x.taken ys b in of t.0 t.1 (e ∙ ap first t.2)
    where
      of : (more : List A) → ys ≡ x.taken ++ more → Some c ≡ first more → Begins (x.taken ++ c ∷ []) ys
      of [] l f = cc
      of (d ∷ more) l f = let same : d ≡ c = cc in (more, l ∙ ap (λ z. x.taken ++ z ∷ more) same ∙ sym (append_assoc x.taken (c ∷ []) more))

  sent_more : (xs : List A) (c : A) (ok : Bool) (y : Sent A) → Begins xs y.sent → Begins xs (sending c ok y).sent
  sent_more xs c true y b = (b.0 ++ c ∷ [], ap (λ ys. ys ++ c ∷ []) b.1 ∙ append_assoc xs b.0 (c ∷ []))
  sent_more xs c false y b = b

  -- nothing is left
  pub took_all : (xs ys : List A) → Begins xs ys → first (drop (length xs) ys) ≡ None → xs ≡ ys
  took_all xs ys b e = let t = left_behind xs ys b in of t.0 t.1 (ap first (sym t.2) ∙ e)
    where
      of : (more : List A) → ys ≡ xs ++ more → first more ≡ None → xs ≡ ys
      of [] l f = sym (l ∙ append-nil xs)
      of (d ∷ more) l f = cc

-- # Each step, and so each program

module _ (q : ℕ) where
  -- what was taken of the cut lane is the first of what was sent
  abbrev pub Follows : Did → Type 0
  Follows d = Begins (d.cut_ins q).taken (d.cut_outs q).sent

  takes_next : (d : Did) (p : ℕ) (o : Option CutSaid) → o ≡ first (drop (length (d.cut_ins p).taken) (d.cut_outs p).sent) → Follows d → Follows (after (TakeCut p) o d)
  takes_next d p o e h = one (q == p) (eqb-true q p)
    where
      one : (t : Bool) → (t ≡ true → q ≡ p) → Begins (cond t (taking o (d.cut_ins p)) (d.cut_ins q)).taken (d.cut_outs q).sent
      one true s =
          let same : p ≡ q = sym (s refl) in
          subst (λ (k : ℕ). Begins (taking o (d.cut_ins p)).taken (d.cut_outs k).sent) same (took_more (d.cut_ins p) (d.cut_outs p).sent o (subst (λ (k : ℕ). Begins (d.cut_ins k).taken (d.cut_outs k).sent) (sym same) h) e)
      one false s = h

  sends_more : (d : Did) (p : ℕ) (c : CutSaid) (ok : Bool) → Follows d → Follows (after (SendCut p c) ok d)
  sends_more d p c ok h = one (q == p) (eqb-true q p)
    where
      one : (t : Bool) → (t ≡ true → q ≡ p) → Begins (d.cut_ins q).taken (cond t (sending c ok (d.cut_outs p)) (d.cut_outs q)).sent
      one true s = sent_more (d.cut_ins q).taken c ok (d.cut_outs p) (subst (λ (k : ℕ). Begins (d.cut_ins q).taken (d.cut_outs k).sent) (s refl) h)
      one false s = h

  after_follows : (s : Step) (o : Found s) (a b : Deeds) → Steps true s o a b → Follows a.did → Follows (after s o a.did)
  after_follows (Send w p m) o a b st h = h
  after_follows (Take w p) o a b st h = h
  after_follows (NextSplit w) o a b st h = h
  after_follows (Draw w i) o a b st h = h
  after_follows (Commit w i n) o a b st h = h
  after_follows (Revoke w i n) o a b st h = h
  after_follows (AskWinner who i) o a b st h = h
  after_follows (AskRevoked who i n) o a b st h = h
  after_follows (Join p i n) o a b st h = h
  after_follows (TryHold p) o a b st h = h
  after_follows (Hold p) o a b st h = h
  after_follows (Record p e) o a b st h = h
  after_follows (GiveBack p due) o a b st h = h
  after_follows (SendCut p c) o a b st h = sends_more a.did p c o h
  after_follows (TakeCut p) o a b st h = takes_next a.did p o (st.finds refl refl).0 h
  after_follows Risk o a b st h = h

  pub runs_follow : {A : Type 0} (k : Prog A) (a b : Deeds) (r : A) → Runs true k a r b → Follows a.did → Follows b.did
  runs_follow (Done x) a b r run h = subst (λ (d : Deeds). Follows d.did) (sym run.1) h
  runs_follow (Then s k) a b r run h = runs_follow (k run.0) run.1 b r run.3 (subst Follows (sym run.2.did) (after_follows s run.0 a run.1 run.2 h))

-- # An idle turn of the writer

-- the next cut that lies in the lane, if there is one
abbrev next_cut : Did → ℕ → Option CutSaid
next_cut d q = first (drop (length (d.cut_ins q).taken) (d.cut_outs q).sent)

not_idle : (ok : Bool) → works ok ≡ Idle → ⊥
not_idle true e = cc
not_idle false e = cc

-- nothing was taken, and nothing lay in the lanes that were looked at
record LookedIn (reducers n p : ℕ) (a b : Deeds) : Type 0 where
  pub taken : (q : ℕ) → (b.did.cut_ins q).taken ≡ (a.did.cut_ins q).taken
  pub outs : b.did.cut_outs ≡ a.did.cut_outs
  pub none : (q : ℕ) → q < reducers → IsAmong reducers n p q → next_cut a.did q ≡ None

module _ (x : Writer) (y : Writer × Turn) (idle : y.1 ≡ Idle) where
  -- the lanes that it looks at
  abbrev lanes : ℕ
  lanes = x.setup.reducers

  same_taken : (d : Did) (p q : ℕ) → ((after (TakeCut p) None d).cut_ins q).taken ≡ (d.cut_ins q).taken
  same_taken d p q = one (q == p) (eqb-true q p)
    where
      one : (t : Bool) → (t ≡ true → q ≡ p) → (cond t (taking None (d.cut_ins p)) (d.cut_ins q)).taken ≡ (d.cut_ins q).taken
      one true s = ap (λ k. (d.cut_ins k).taken) (sym (s refl))
      one false s = refl

  looked_one : (n p : ℕ) (a b : Deeds) (o : Option CutSaid) (mid : Deeds) → p < lanes → Steps true (TakeCut p) o a mid
      → (Runs true (writes x n (lane_after lanes p)) mid y b → LookedIn lanes n (lane_after lanes p) mid b)
      → Runs true (elim o as (λ _. Prog (Writer × Turn)) [ None ↦ writes x n (lane_after lanes p) | Some c ↦ Then Risk (λ ok. Done (wrote x p c ok, works ok)) ]) mid y b → LookedIn lanes (suc n) p a b
  looked_one n p a b None mid lp st later run =
      let w = later run in
      let now : (q : ℕ) → (mid.did.cut_ins q).taken ≡ (a.did.cut_ins q).taken = λ q. ap (λ (d : Did). (d.cut_ins q).taken) st.did ∙ same_taken a.did p q in
      let outs : mid.did.cut_outs ≡ a.did.cut_outs = ap (λ (d : Did). d.cut_outs) st.did in
      record {
        taken = λ q. w.taken q ∙ now q;
        outs = w.outs ∙ outs;
        none = λ q lq among. ⊎_elim
            (λ (k : q ≡ p). ap (next_cut a.did) k ∙ sym (st.finds refl refl).0)
            (λ (k : IsAmong lanes n (lane_after lanes p) q). (λ i. first (drop (length (sym (now q) i)) (sym outs i q).sent)) ∙ w.none q lq k)
            (among_next lanes n p q lq lp among);
      }
  looked_one n p a b (Some c) mid lp st later run = absurd (not_idle run.0 (ap (λ (z : Writer × Turn). z.1) (sym run.3.0) ∙ idle))

  looked : (n p : ℕ) (a b : Deeds) → p < lanes → Runs true (writes x n p) a y b → LookedIn lanes n p a b
  looked zero p a b lp run = record {
    taken = λ q. ap (λ (d : Deeds). (d.did.cut_ins q).taken) run.1;
    outs = ap (λ (d : Deeds). d.did.cut_outs) run.1;
    none = λ q lq among. ⊎_elim (λ (k : (p ≤ q) × (q - p < zero)). absurd (omega arith)) (λ (k : (q < p) × (q + lanes - p < zero)). absurd (omega arith)) among;
  }
  looked (suc n) p a b lp run = looked_one n p a b run.0 run.1 lp run.2 (λ later. looked n (lane_after lanes p) run.1 b (below lanes p lp) later) run.3

-- an idle turn leaves nothing in the cut lanes
pub idle_took : (s : Setup) (x : Writer) (y : Writer × Turn) (a b : Deeds) → HasPut x s → Runs true (writer_turn x) a y b → y.1 ≡ Idle
    → (q : ℕ) → q < s.reducers → Follows q a.did → (b.did.cut_ins q).taken ≡ (b.did.cut_outs q).sent
idle_took s x y a b h run idle q lq follows =
    let n : x.setup.reducers ≡ s.reducers = ap (λ (k : Setup). k.reducers) h.setup in
    let first_lane : x.next < x.setup.reducers = let l = h.next in omega (arith, n, l) in
    let t = looked x y idle x.setup.reducers x.next a b first_lane run in
    let l : q < x.setup.reducers = omega (arith, n, lq) in
    t.taken q ∙ took_all (a.did.cut_ins q).taken (a.did.cut_outs q).sent follows (t.none q l (all_among x.setup.reducers x.next q l first_lane)) ∙ (λ i. (sym t.outs i q).sent)
