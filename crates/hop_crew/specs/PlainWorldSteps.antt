-- A step of an end is that step of the world.
use Rattle.std.specs.Prelude.{◌≡◌, ℕ, ◌==◌, ◌&&◌, Bool, true, false, List, [], ◌∷◌, ◌++◌, length, Option, Some, cond, nat_lt}
use Rattle.std.proofs.Common.{refl, sym, ap, ◌∙◌, subst}
use Rattle.hop_cut.specs.declared.cut.Cut.{Cut}
use Rattle.hop_machine.specs.declared.words.Who.{Who}
use Rattle.hop_machine.specs.step.Steps.{Setup, TellsTaken, TellsCuts, Deeds, Step, Found, Steps, Send, Take, NextSplit, Draw, Commit, Revoke, AskWinner, AskRevoked, Join, TryHold, Hold, Record, GiveBack, SendCut, TakeCut, Risk, CutSaid, Grows, End, OutEnd, InEnd, CutOutEnd, CutInEnd, BoardEnd, KeepEnd, Begins, Sent, Taken, sending, taking, first, rest, shown, Knows, at1, at2}
use Rattle.hop_crew.specs.declared.plain_world.PlainWorld.{PlainWorld}
use Rattle.hop_inner.specs.Lines.{Sends, Takes, option_said}
use Rattle.hop_lane.specs.PlainLanes.{Lane, line_of}
use Rattle.hop_inner.specs.Messages.{said, said_cut}
use Rattle.hop_inner.specs.Locks.{Lock, with_kept}
use Rattle.hop_inner.specs.Boards.{boards_step}
use Rattle.hop_board.specs.PlainBoards.{BoardValue, board_deeds}
use Rattle.hop_crew.specs.PlainWorlds.{deeds_of, deeds_with, lane_of, cut_of, keep_of, with_lane, with_cut, with_keep, Mail, is_lane, is_cut, name_at, is_keep, has_end, sent_at, taken_at, kept_at}
use Rattle.hop_crew.specs.Grid.{grid_here, grid_else, get_here, get_else, is_here, not_both, not_eq}
use Rattle.std.proofs.lemmas.Bool.{eqb-true}
use Rattle.hop_crew.specs.Cells.{changed, unchanged, all_places, begins_same, lies, sends_into, sends_out, lies_more, lies_same, sends_found, sends_tells, sends_begins, takes_out, takes_into, takes_found, takes_rest, takes_tells, takes_begins}

same_verdicts : (k : Rattle.hop_machine.specs.step.Steps.Verdicts) → Knows k k
same_verdicts k = record { won = λ i n e. e; gone = λ i n e. e }

same_begins : {A : Type 0} (xs : List A) → Begins xs xs
same_begins xs = begins_same xs xs refl

-- # A lane from w to p

module _ (setup : Setup) (gathered : Bool) (board : BoardValue) (cuts : ℕ → Option (Lane Cut)) (keeps : ℕ → Option Lock)
    (w p : ℕ) (L L' : ℕ → ℕ → Option (Lane Mail)) (x y : Lane Mail) (at : L w p ≡ Some x) (at' : L' w p ≡ Some y)
    (else : (v q : ℕ) → ((v ≡ w) → (q ≡ p) → ⊥) → L' v q ≡ L v q) where
  abbrev here : ℕ × ℕ → Bool
  here k = (k.0 == w) && (k.1 == p)

  abbrev old : ℕ × ℕ → Option (Lane Mail)
  old k = L k.0 k.1

  abbrev new : ℕ × ℕ → Option (Lane Mail)
  new k = L' k.0 k.1

  rest_same : (k : ℕ × ℕ) → here k ≡ false → new k ≡ old k
  rest_same k h = else k.0 k.1 (not_both k.0 w k.1 p h)

  now : {B : Type 0} (g : Option (Lane Mail) → B) (b : B) → g (Some y) ≡ b → (v q : ℕ) → g (L' v q) ≡ at2 (λ v q. g (L v q)) w p b v q
  now g b e v q = changed here (w, p) old new x y at at' (is_here w p) rest_same g b e (v, q)

  still : {B : Type 0} (g : Option (Lane Mail) → B) → g (Some y) ≡ g (Some x) → (v q : ℕ) → g (L' v q) ≡ g (L v q)
  still g e v q = unchanged here (w, p) old new x y at at' (is_here w p) rest_same g e (v, q)

  each : (P : Option (Lane Mail) → Option (Lane Mail) → Type 0) → P (Some x) (Some y) → ((r : Option (Lane Mail)) → P r r) → (v q : ℕ) → P (L v q) (L' v q)
  each P one same v q = all_places here (w, p) old new x y at at' (is_here w p) rest_same P one same (v, q)

  abbrev a : Deeds
  a = deeds_with setup gathered board L cuts keeps

  abbrev b : Deeds
  b = deeds_with setup gathered board L' cuts keeps

  same_end : y.key ≡ x.key → (e : End) → has_end setup gathered board.name L' cuts keeps e ≡ has_end setup gathered board.name L cuts keeps e
  same_end k (OutEnd v q) = still (λ r. is_lane board.name v q r) (λ i. is_lane board.name v q (Some (record y { key = k i }))) v q
  same_end k (InEnd v q) = still (λ r. is_lane board.name v q r) (λ i. is_lane board.name v q (Some (record y { key = k i }))) v q
  same_end k (CutOutEnd q) = refl
  same_end k (CutInEnd q) = refl
  same_end k (BoardEnd who) = refl
  same_end k (KeepEnd q) = refl

  same_ends : y.key ≡ x.key → y.name ≡ x.name → b.ends ≡ a.ends
  same_ends k n = λ i. record a.ends { has = λ e. same_end k e i; lanes = λ v q. still name_at n v q i }

  abbrev lies_in : (ℕ → ℕ → Option (Lane Mail)) → ℕ → ℕ → List Rattle.hop_machine.specs.declared.words.Message.Message
  lies_in G v q = lies said (G v q)

  send_shown : (m : Mail) (ok : Bool) → Sends true setup.capacity m ok (line_of x) (line_of y)
      → shown b ≡ cond ok (record (shown a) { lanes = at2 (lies_in L) w p (lies_in L w p ++ said m ∷ []) }) (shown a)
  send_shown m true h = λ i. record (shown a) { lanes = λ v q. now (lies said) (lies_in L w p ++ said m ∷ []) (lies_more said setup.capacity m x y h ∙ ap (λ r. lies said r ++ said m ∷ []) (sym at)) v q i }
  send_shown m false h = λ i. record (shown a) { lanes = λ v q. still (lies said) (lies_same said setup.capacity m x y h) v q i }

  pub send_step : (m : Mail) (ok : Bool) → Sends true setup.capacity m ok (line_of x) (line_of y) → Steps true (Send w p (said m)) ok a b
  send_step m ok h =
      let out : sent_at said (Some y) ≡ sending (said m) ok (sent_at said (L w p)) = sends_out said setup.capacity m x y ok h ∙ ap (λ r. sending (said m) ok (sent_at said r)) (sym at) in
      let into = sends_into said setup.capacity m x y ok h in
      let found : ok ≡ nat_lt (length (lies_in L w p)) setup.capacity = sends_found said setup.capacity m x y ok h ∙ ap (λ r. nat_lt (length (lies said r)) setup.capacity) (sym at) in
      record {
        setup = refl;
        ends = same_ends h.key h.name;
        right = λ who k. k;
        calm = λ _. refl;
        did = λ i. record a.did { outs = λ v q. now (sent_at said) (sending (said m) ok (sent_at said (L w p))) out v q i; ins = λ v q. still (taken_at said) into v q i };
        grows = record {
          taken = each (λ r q. Begins (taken_at said r).taken (taken_at said q).taken) (begins_same (taken_at said (Some x)).taken (taken_at said (Some y)).taken (ap (λ (t : Taken _). t.taken) into)) (λ r. same_begins (taken_at said r).taken);
          sent = each (λ r q. Begins (sent_at said r).sent (sent_at said q).sent) (sends_begins said setup.capacity m x y ok h) (λ r. same_begins (sent_at said r).sent);
          cut_taken = λ q. same_begins (a.told.cut_taken q);
          cut_sent = λ q. same_begins (a.told.cut_sent q);
          knows = λ who. same_verdicts (a.told.knows who);
        };
        tells = subst (λ r. Rattle.hop_machine.specs.step.Steps.TellsFull setup.capacity ok (sent_at said r).sent (taken_at said r).taken) (sym at) (sends_tells said setup.capacity m x y ok h);
        finds = λ e went. (found, send_shown m ok h ∙ ap (λ t. cond t (record (shown a) { lanes = at2 (lies_in L) w p (lies_in L w p ++ said m ∷ []) }) (shown a)) found);
      }

  pub take_step : (o : Option Mail) → Takes true o (line_of x) (line_of y) → TellsTaken setup (option_said said o) (taken_at said (L w p)).taken → Steps true (Take w p) (option_said said o) a b
  take_step o h allowed =
      let into : taken_at said (Some y) ≡ taking (option_said said o) (taken_at said (L w p)) = takes_into said x y o h ∙ ap (λ r. taking (option_said said o) (taken_at said r)) (sym at) in
      let out = takes_out said x y o h in
      record {
        setup = refl;
        ends = same_ends h.key h.name;
        right = λ who k. k;
        calm = λ _. refl;
        did = λ i. record a.did { outs = λ v q. still (sent_at said) out v q i; ins = λ v q. now (taken_at said) (taking (option_said said o) (taken_at said (L w p))) into v q i };
        grows = record {
          taken = each (λ r q. Begins (taken_at said r).taken (taken_at said q).taken) (takes_begins said x y o h) (λ r. same_begins (taken_at said r).taken);
          sent = each (λ r q. Begins (sent_at said r).sent (sent_at said q).sent) (begins_same (sent_at said (Some x)).sent (sent_at said (Some y)).sent (ap (λ (t : Sent _). t.sent) out)) (λ r. same_begins (sent_at said r).sent);
          cut_taken = λ q. same_begins (a.told.cut_taken q);
          cut_sent = λ q. same_begins (a.told.cut_sent q);
          knows = λ who. same_verdicts (a.told.knows who);
        };
        tells = (subst (λ (r : Option (Lane Mail) × Option (Lane Mail)). Rattle.hop_machine.specs.step.Steps.TellsEmpty (option_said said o) (taken_at said r.0).taken (sent_at said r.1).sent) (λ i. (sym at i, sym at' i)) (takes_tells said x y o h), allowed);
        finds = λ e went. (
          takes_found said x y o h ∙ ap (λ r. first (lies said r)) (sym at),
          λ i. record (shown a) { lanes = λ v q. now (lies said) (rest (lies_in L w p)) (takes_rest said x y o h ∙ ap (λ r. rest (lies said r)) (sym at)) v q i },
        );
      }

-- # The cut lane of p

module _ (setup : Setup) (gathered : Bool) (board : BoardValue) (L : ℕ → ℕ → Option (Lane Mail)) (keeps : ℕ → Option Lock)
    (p : ℕ) (C C' : ℕ → Option (Lane Cut)) (x y : Lane Cut) (at : C p ≡ Some x) (at' : C' p ≡ Some y) (else : (q : ℕ) → (q ≡ p → ⊥) → C' q ≡ C q) where
  abbrev cut_here : ℕ → Bool
  cut_here q = q == p

  cut_rest : (q : ℕ) → cut_here q ≡ false → C' q ≡ C q
  cut_rest q h = else q (not_eq q p h)

  cut_now : {B : Type 0} (g : Option (Lane Cut) → B) (b : B) → g (Some y) ≡ b → (q : ℕ) → g (C' q) ≡ at1 (λ q. g (C q)) p b q
  cut_now g b e q = changed cut_here p C C' x y at at' (λ k h. eqb-true k p h) cut_rest g b e q

  cut_still : {B : Type 0} (g : Option (Lane Cut) → B) → g (Some y) ≡ g (Some x) → (q : ℕ) → g (C' q) ≡ g (C q)
  cut_still g e q = unchanged cut_here p C C' x y at at' (λ k h. eqb-true k p h) cut_rest g e q

  cut_each : (P : Option (Lane Cut) → Option (Lane Cut) → Type 0) → P (Some x) (Some y) → ((r : Option (Lane Cut)) → P r r) → (q : ℕ) → P (C q) (C' q)
  cut_each P one same q = all_places cut_here p C C' x y at at' (λ k h. eqb-true k p h) cut_rest P one same q

  abbrev ca : Deeds
  ca = deeds_with setup gathered board L C keeps

  abbrev cb : Deeds
  cb = deeds_with setup gathered board L C' keeps

  cut_end : y.key ≡ x.key → (e : End) → has_end setup gathered board.name L C' keeps e ≡ has_end setup gathered board.name L C keeps e
  cut_end k (OutEnd v q) = refl
  cut_end k (InEnd v q) = refl
  cut_end k (CutOutEnd q) = cut_still (λ r. is_cut q r) (λ i. (k i).reducer == q) q
  cut_end k (CutInEnd q) = cut_still (λ r. is_cut q r) (λ i. (k i).reducer == q) q
  cut_end k (BoardEnd who) = refl
  cut_end k (KeepEnd q) = refl

  cut_ends : y.key ≡ x.key → y.name ≡ x.name → cb.ends ≡ ca.ends
  cut_ends k n = λ i. record ca.ends { has = λ e. cut_end k e i; cut_lanes = λ q. cut_still name_at n q i }

  abbrev cuts_in : (ℕ → Option (Lane Cut)) → ℕ → List CutSaid
  cuts_in G q = lies said_cut (G q)

  cut_shown : (c : Cut) (ok : Bool) → Sends true 16 c ok (line_of x) (line_of y)
      → shown cb ≡ cond ok (record (shown ca) { cuts = at1 (cuts_in C) p (cuts_in C p ++ said_cut c ∷ []) }) (shown ca)
  cut_shown c true h = λ i. record (shown ca) { cuts = λ q. cut_now (lies said_cut) (cuts_in C p ++ said_cut c ∷ []) (lies_more said_cut 16 c x y h ∙ ap (λ r. lies said_cut r ++ said_cut c ∷ []) (sym at)) q i }
  cut_shown c false h = λ i. record (shown ca) { cuts = λ q. cut_still (lies said_cut) (lies_same said_cut 16 c x y h) q i }

  pub send_cut_step : (c : Cut) (ok : Bool) → Sends true 16 c ok (line_of x) (line_of y) → Steps true (SendCut p (said_cut c)) ok ca cb
  send_cut_step c ok h =
      let out : sent_at said_cut (Some y) ≡ sending (said_cut c) ok (sent_at said_cut (C p)) = sends_out said_cut 16 c x y ok h ∙ ap (λ r. sending (said_cut c) ok (sent_at said_cut r)) (sym at) in
      let into = sends_into said_cut 16 c x y ok h in
      let found : ok ≡ nat_lt (length (cuts_in C p)) 16 = sends_found said_cut 16 c x y ok h ∙ ap (λ r. nat_lt (length (lies said_cut r)) 16) (sym at) in
      record {
        setup = refl;
        ends = cut_ends h.key h.name;
        right = λ who k. k;
        calm = λ _. refl;
        did = λ i. record ca.did { cut_outs = λ q. cut_now (sent_at said_cut) (sending (said_cut c) ok (sent_at said_cut (C p))) out q i; cut_ins = λ q. cut_still (taken_at said_cut) into q i };
        grows = record {
          taken = λ v q. same_begins (ca.told.taken v q);
          sent = λ v q. same_begins (ca.told.sent v q);
          cut_taken = cut_each (λ r q. Begins (taken_at said_cut r).taken (taken_at said_cut q).taken) (begins_same (taken_at said_cut (Some x)).taken (taken_at said_cut (Some y)).taken (ap (λ (t : Taken _). t.taken) into)) (λ r. same_begins (taken_at said_cut r).taken);
          cut_sent = cut_each (λ r q. Begins (sent_at said_cut r).sent (sent_at said_cut q).sent) (sends_begins said_cut 16 c x y ok h) (λ r. same_begins (sent_at said_cut r).sent);
          knows = λ who. same_verdicts (ca.told.knows who);
        };
        tells = subst (λ r. Rattle.hop_machine.specs.step.Steps.TellsFull 16 ok (sent_at said_cut r).sent (taken_at said_cut r).taken) (sym at) (sends_tells said_cut 16 c x y ok h);
        finds = λ e went. (found, cut_shown c ok h ∙ ap (λ t. cond t (record (shown ca) { cuts = at1 (cuts_in C) p (cuts_in C p ++ said_cut c ∷ []) }) (shown ca)) found);
      }

  pub take_cut_step : (o : Option Cut) → Takes true o (line_of x) (line_of y) → TellsCuts setup (option_said said_cut o) (taken_at said_cut (C p)).taken → Steps true (TakeCut p) (option_said said_cut o) ca cb
  take_cut_step o h allowed =
      let into : taken_at said_cut (Some y) ≡ taking (option_said said_cut o) (taken_at said_cut (C p)) = takes_into said_cut x y o h ∙ ap (λ r. taking (option_said said_cut o) (taken_at said_cut r)) (sym at) in
      let out = takes_out said_cut x y o h in
      record {
        setup = refl;
        ends = cut_ends h.key h.name;
        right = λ who k. k;
        calm = λ _. refl;
        did = λ i. record ca.did { cut_outs = λ q. cut_still (sent_at said_cut) out q i; cut_ins = λ q. cut_now (taken_at said_cut) (taking (option_said said_cut o) (taken_at said_cut (C p))) into q i };
        grows = record {
          taken = λ v q. same_begins (ca.told.taken v q);
          sent = λ v q. same_begins (ca.told.sent v q);
          cut_taken = cut_each (λ r q. Begins (taken_at said_cut r).taken (taken_at said_cut q).taken) (takes_begins said_cut x y o h) (λ r. same_begins (taken_at said_cut r).taken);
          cut_sent = cut_each (λ r q. Begins (sent_at said_cut r).sent (sent_at said_cut q).sent) (begins_same (sent_at said_cut (Some x)).sent (sent_at said_cut (Some y)).sent (ap (λ (t : Sent _). t.sent) out)) (λ r. same_begins (sent_at said_cut r).sent);
          knows = λ who. same_verdicts (ca.told.knows who);
        };
        tells = (subst (λ (r : Option (Lane Cut) × Option (Lane Cut)). Rattle.hop_machine.specs.step.Steps.TellsEmpty (option_said said_cut o) (taken_at said_cut r.0).taken (sent_at said_cut r.1).sent) (λ i. (sym at i, sym at' i)) (takes_tells said_cut x y o h), allowed);
        finds = λ e went. (
          takes_found said_cut x y o h ∙ ap (λ r. first (lies said_cut r)) (sym at),
          λ i. record (shown ca) { cuts = λ q. cut_now (lies said_cut) (rest (cuts_in C p)) (takes_rest said_cut x y o h ∙ ap (λ r. rest (lies said_cut r)) (sym at)) q i },
        );
      }

-- # The lock of p

module _ (setup : Setup) (gathered : Bool) (board : BoardValue) (L : ℕ → ℕ → Option (Lane Mail)) (C : ℕ → Option (Lane Cut))
    (p : ℕ) (K K' : ℕ → Option Lock) (x k : Lock) (at : K p ≡ Some x) (at' : K' p ≡ Some k) (else : (q : ℕ) → (q ≡ p → ⊥) → K' q ≡ K q) where
  abbrev keep_here : ℕ → Bool
  keep_here q = q == p

  keep_rest : (q : ℕ) → keep_here q ≡ false → K' q ≡ K q
  keep_rest q h = else q (not_eq q p h)

  keep_end : k.number ≡ x.number → (e : End) → has_end setup gathered board.name L C K' e ≡ has_end setup gathered board.name L C K e
  keep_end n (OutEnd v q) = refl
  keep_end n (InEnd v q) = refl
  keep_end n (CutOutEnd q) = refl
  keep_end n (CutInEnd q) = refl
  keep_end n (BoardEnd who) = refl
  keep_end n (KeepEnd q) = unchanged keep_here p K K' x k at at' (λ j h. eqb-true j p h) keep_rest (λ r. is_keep q r) (λ i. n i == q) q

  keep_now : (q : ℕ) → kept_at (K' q) ≡ at1 (λ q. kept_at (K q)) p k.kept q
  keep_now q = changed keep_here p K K' x k at at' (λ j h. eqb-true j p h) keep_rest kept_at k.kept refl q

  pub put_keep : k.number ≡ x.number → deeds_with setup gathered board L C K' ≡ with_kept p k.kept (deeds_with setup gathered board L C K)
  put_keep n = λ i. record (deeds_with setup gathered board L C K) {
    ends = record (deeds_with setup gathered board L C K).ends { has = λ e. keep_end n e i };
    did = record (deeds_with setup gathered board L C K).did { keeps = λ q. keep_now q i };
  }

-- # The board

some_is : {A : Type 0} (x y : A) → Some x ≡ Some y → x ≡ y
some_is x y e = cc

module _ (setup : Setup) (gathered : Bool) (L : ℕ → ℕ → Option (Lane Mail)) (C : ℕ → Option (Lane Cut)) (K : ℕ → Option Lock) (x y : BoardValue) where
  abbrev ba : Deeds
  ba = deeds_with setup gathered x L C K

  abbrev bb : Deeds
  bb = deeds_with setup gathered y L C K

  abbrev bx : Deeds
  bx = board_deeds setup x

  abbrev by : Deeds
  by = board_deeds setup y

  board_ends : by.ends ≡ bx.ends → bb.ends ≡ ba.ends
  board_ends e = λ i. record ba.ends { has = has_end setup gathered (e i).board L C K; board = (e i).board }

  board_grows : Grows bx.told by.told → Grows ba.told bb.told
  board_grows g = record {
    taken = λ v q. same_begins (ba.told.taken v q);
    sent = λ v q. same_begins (ba.told.sent v q);
    cut_taken = λ q. same_begins (ba.told.cut_taken q);
    cut_sent = λ q. same_begins (ba.told.cut_sent q);
    knows = g.knows;
  }

  pub board_step_of : (who : Who) (q : Step) (o : Found q) → boards_step q ≡ Some who → Steps true q o bx by → Steps true q o ba bb
  board_step_of who (NextSplit w) o at h = record {
    setup = refl;
    ends = board_ends h.ends;
    right = h.right;
    calm = h.calm;
    did = λ i. record ba.did { seats = (h.did i).seats };
    grows = board_grows h.grows;
    tells = h.tells;
    finds = λ e w. ((h.finds e w).0, λ i. record (shown ba) { words = ((h.finds e w).1 i).words });
  }
  board_step_of who (Draw w i') o at h = record {
    setup = refl;
    ends = board_ends h.ends;
    right = h.right;
    calm = h.calm;
    did = λ i. record ba.did { seats = (h.did i).seats };
    grows = board_grows h.grows;
    tells = h.tells;
    finds = λ e w. ((h.finds e w).0, λ i. record (shown ba) { words = ((h.finds e w).1 i).words });
  }
  board_step_of who (Commit w i' n) o at h = record {
    setup = refl;
    ends = board_ends h.ends;
    right = h.right;
    calm = h.calm;
    did = λ i. record ba.did { seats = (h.did i).seats };
    grows = board_grows h.grows;
    tells = h.tells;
    finds = λ e w. ((h.finds e w).0, λ i. record (shown ba) { words = ((h.finds e w).1 i).words });
  }
  board_step_of who (Revoke w i' n) o at h = record {
    setup = refl;
    ends = board_ends h.ends;
    right = h.right;
    calm = h.calm;
    did = λ i. record ba.did { seats = (h.did i).seats };
    grows = board_grows h.grows;
    tells = h.tells;
    finds = λ e w. ((h.finds e w).0, λ i. record (shown ba) { words = ((h.finds e w).1 i).words });
  }
  board_step_of who (AskWinner v i') o at h = record {
    setup = refl;
    ends = board_ends h.ends;
    right = h.right;
    calm = h.calm;
    did = λ i. record ba.did { seats = (h.did i).seats };
    grows = board_grows h.grows;
    tells = h.tells;
    finds = λ e w. ((h.finds e w).0, λ i. record (shown ba) { words = ((h.finds e w).1 i).words });
  }
  board_step_of who (AskRevoked v i' n) o at h = record {
    setup = refl;
    ends = board_ends h.ends;
    right = h.right;
    calm = h.calm;
    did = λ i. record ba.did { seats = (h.did i).seats };
    grows = board_grows h.grows;
    tells = h.tells;
    finds = λ e w. ((h.finds e w).0, λ i. record (shown ba) { words = ((h.finds e w).1 i).words });
  }
  board_step_of who (Join p i' n) o at h = record {
    setup = refl;
    ends = board_ends h.ends;
    right = h.right;
    calm = h.calm;
    did = λ i. record ba.did { seats = (h.did i).seats };
    grows = board_grows h.grows;
    tells = h.tells;
    finds = λ e w. ((h.finds e w).0, λ i. record (shown ba) { words = ((h.finds e w).1 i).words });
  }
  board_step_of who (Send w p m) o at h = cc
  board_step_of who (Take w p) o at h = cc
  board_step_of who (TryHold p) o at h = cc
  board_step_of who (Hold p) o at h = cc
  board_step_of who (Record p ev) o at h = cc
  board_step_of who (GiveBack p due) o at h = cc
  board_step_of who (SendCut p c) o at h = cc
  board_step_of who (TakeCut p) o at h = cc
  board_step_of who Risk o at h = cc

  pub same_board : by ≡ bx → bb ≡ ba
  same_board e = λ i. record ba {
    ends = board_ends (ap (λ (d : Deeds). d.ends) e) i;
    did = record ba.did { seats = (e i).did.seats };
    told = record ba.told { knows = (e i).told.knows };
    words = (e i).words;
  }

module _ {N V : Type 0} (setup : Setup) (s : PlainWorld N V) where
  pub out_steps : (w p : ℕ) (x y : Lane Mail) (m : Mail) (ok : Bool) → lane_of s w p ≡ Some x → Sends true setup.capacity m ok (line_of x) (line_of y)
      → Steps true (Send w p (said m)) ok (deeds_of setup s) (deeds_of setup (with_lane s w p y))
  out_steps w p x y m ok is h = send_step setup s.gathered s.board (cut_of s) (keep_of s) w p (lane_of s) (lane_of (with_lane s w p y)) x y is
      (grid_here s.lanes.items s.workers s.reducers w p x y is) (grid_else s.lanes.items s.workers s.reducers w p x y is) m ok h

  pub in_steps : (w p : ℕ) (x y : Lane Mail) (o : Option Mail) → lane_of s w p ≡ Some x → Takes true o (line_of x) (line_of y) → TellsTaken setup (option_said said o) (taken_at said (lane_of s w p)).taken
      → Steps true (Take w p) (option_said said o) (deeds_of setup s) (deeds_of setup (with_lane s w p y))
  in_steps w p x y o is h t = take_step setup s.gathered s.board (cut_of s) (keep_of s) w p (lane_of s) (lane_of (with_lane s w p y)) x y is
      (grid_here s.lanes.items s.workers s.reducers w p x y is) (grid_else s.lanes.items s.workers s.reducers w p x y is) o h t

  pub cut_out_steps : (p : ℕ) (x y : Lane Cut) (c : Cut) (ok : Bool) → cut_of s p ≡ Some x → Sends true 16 c ok (line_of x) (line_of y)
      → Steps true (SendCut p (said_cut c)) ok (deeds_of setup s) (deeds_of setup (with_cut s p y))
  cut_out_steps p x y c ok is h = send_cut_step setup s.gathered s.board (lane_of s) (keep_of s) p (cut_of s) (cut_of (with_cut s p y)) x y is
      (get_here s.cuts.items p y x is) (λ q n. get_else s.cuts.items p q y n) c ok h

  pub cut_in_steps : (p : ℕ) (x y : Lane Cut) (o : Option Cut) → cut_of s p ≡ Some x → Takes true o (line_of x) (line_of y) → TellsCuts setup (option_said said_cut o) (taken_at said_cut (cut_of s p)).taken
      → Steps true (TakeCut p) (option_said said_cut o) (deeds_of setup s) (deeds_of setup (with_cut s p y))
  cut_in_steps p x y o is h t = take_cut_step setup s.gathered s.board (lane_of s) (keep_of s) p (cut_of s) (cut_of (with_cut s p y)) x y is
      (get_here s.cuts.items p y x is) (λ q n. get_else s.cuts.items p q y n) o h t

  pub board_steps : (who : Who) (x y : BoardValue) (q : Step) (o : Found q) → Some (record s.board { who = who }) ≡ Some x → boards_step q ≡ Some who
      → Steps true q o (board_deeds setup x) (board_deeds setup y)
      → Steps true q o (deeds_of setup s) (deeds_of setup (record s { board = y }))
  board_steps who x y q o is at h = board_step_of setup s.gathered (lane_of s) (cut_of s) (keep_of s) (record s.board { who = who }) y who q o at
      (subst (λ (z : BoardValue). Steps true q o (board_deeds setup z) (board_deeds setup y)) (sym (some_is (record s.board { who = who }) x is)) h)

  pub board_stays : (who : Who) (x y : BoardValue) → Some (record s.board { who = who }) ≡ Some x → board_deeds setup y ≡ board_deeds setup x
      → deeds_of setup (record s { board = y }) ≡ deeds_of setup s
  board_stays who x y is h = same_board setup s.gathered (lane_of s) (cut_of s) (keep_of s) (record s.board { who = who }) y
      (h ∙ ap (board_deeds setup) (sym (some_is (record s.board { who = who }) x is)))

  pub keep_puts : (p : ℕ) (x k : Lock) → keep_of s p ≡ Some x → k.number ≡ x.number → deeds_of setup (with_keep s p k) ≡ with_kept p k.kept (deeds_of setup s)
  keep_puts p x k is n = put_keep setup s.gathered s.board (lane_of s) (cut_of s) p (keep_of s) (keep_of (with_keep s p k)) x k is
      (get_here s.keeps.items p k x is) (λ q e. get_else s.keeps.items p q k e) n
