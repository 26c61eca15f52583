-- What each call does to a board of one thread.
use Rattle.std.proofs.Common.{◌≡◌, ℕ, ◌+◌, ◌<◌, ◌==◌, ◌⊎◌, Bool, true, false, nat_lt, cond, List, [], ◌∷◌, ◌++◌, length, Option, Some, None, refl, sym, ap, ◌∙◌, subst, inl, inr, ⊎_elim, arith}
use Rattle.std.proofs.lemmas.Bool.{eq-eqb, ltb-true}
use Rattle.hop_machine.specs.declared.words.Who.{Who}
use Rattle.hop_machine.specs.declared.words.Who.TheVariants as whose
use Rattle.hop_machine.specs.declared.words.Verdict.{Verdict}
use Rattle.hop_machine.specs.declared.words.Verdict.TheVariants.{Won, Lost}
use Rattle.hop_machine.specs.step.Setup.{splits_of}
use Rattle.hop_machine.specs.step.Owners.{IsAt}
use Rattle.hop_machine.specs.step.Steps.{Setup, rules_of, Deeds, Did, Seat, Words, Shared, Verdicts, Step, Found, Steps, Grows, Knows, Tells, NextSplit, Draw, Commit, Revoke, AskWinner, AskRevoked, Join, TellsSplit, TellsVerdict, is_at_board, after, finds, becomes, went, at1, at_actor, next_of, verdict_of, with_winner, with_bit, has_bit, next_split_of, shown}
use Rattle.hop_machine.specs.home.Conditions.{Asks}
use Rattle.hop_machine.specs.home.Said.{seat_of}
use Rattle.hop_machine.specs.board.Board.{BoardRule}
use Rattle.hop_machine.proofs.board.Exact.{exact-kept}
use Rattle.hop_machine.proofs.board.Allowed.{allowed}
use Rattle.hop_inner.specs.Boards.{KnowsVerdict}
use Rattle.hop_inner.specs.Setups.{parts}
use Rattle.hop_board.specs.declared.plain_board.Call.{Call}
use Rattle.hop_board.specs.declared.plain_board.Call.TheVariants.{Gave, Drew as Drew', Committed, Revoked}
use Rattle.hop_board.specs.declared.plain_board.Made.{Made}
use Rattle.hop_board.specs.SharedLogs.{Ends}
use Rattle.hop_board.specs.PlainBoards.{BoardValue, board_deeds, words_of, words_after, seats_of, seat_after, verdicts_of, is_winner, given_count}
use Rattle.hop_board.proofs.Places.{not_eq, at1-here, grows_same}
use Rattle.hop_board.proofs.Known.{known, stands, tells_asked, bit_set, knows_more, knows_later}

-- the rule of the calls that were made
abbrev pub Rule : Setup → List Made → Type 0
Rule setup calls = BoardRule (rules_of setup) (words_of calls) (λ w. seats_of calls (whose.Mapper w))

count_of : (t : Bool) (c : ℕ) → given_count (cond t (Some c) None) ≡ cond t 1 0
count_of true c = refl
count_of false c = refl

module _ (setup : Setup) (name : List ℕ) (calls : List Made) (h : Rule setup calls) where
  abbrev x : Words
  x = words_of calls

  -- the deeds of the end of an actor
  abbrev deeds : Who → List Made → Deeds
  deeds who l = board_deeds setup (record { name = name; who = who; calls = l })

  module _ (w : ℕ) where
    abbrev mine : Who
    mine = whose.Mapper w

    abbrev a0 : Deeds
    a0 = deeds mine calls

    abbrev more : Call → List Made
    more k = record { who = mine; call = k } ∷ calls

    abbrev b0 : Call → Deeds
    b0 k = deeds mine (more k)

    -- what the call k is as a step
    pub record IsCall (k : Call) (q : Step) (o : Found q) : Type 0 where
      pub board : is_at_board q ≡ true
      pub at : IsAt mine q
      pub did : record a0.did { seats = seats_of (more k) } ≡ after q o a0.did
      pub found : o ≡ finds q (shown a0)
      pub words : words_after k x ≡ (becomes q (shown a0)).words
      pub shows : shown (b0 k) ≡ becomes q (shown a0)

    pub rule_kept : (k : Call) (q : Step) (o : Found q) → IsCall k q o → w < setup.workers → Asks parts q a0 → Rule setup (more k)
    rule_kept k q o is inside asks =
        let seats : seat_of (b0 k) ≡ (λ v. (after q (finds q (shown a0)) a0.did).seats (whose.Mapper v)) =
        ap (λ (z : Did). λ v. z.seats (whose.Mapper v)) is.did ∙ ap (λ z. λ v. (after q z a0.did).seats (whose.Mapper v)) is.found in
        subst (λ (z : Words × (ℕ → Seat)). BoardRule (rules_of setup) z.0 z.1) (λ t. (sym is.words t, sym seats t))
        (exact-kept (rules_of setup) a0 refl h q (allowed parts w a0 inside (stands x) q is.at asks))

    step_of : (k : Call) (q : Step) (o : Found q) → IsCall k q o → Rule setup (more k) → Tells q o a0 (b0 k) → Steps true q o a0 (b0 k)
    step_of k q o is rule tells = record {
      setup = refl;
      ends = refl;
      did = is.did;
      grows = let g = grows_same a0.told in record { taken = g.taken; sent = g.sent; cut_taken = g.cut_taken; cut_sent = g.cut_sent; knows = λ who. knows_more k x };
      right = λ who _. known setup (words_of (more k)) (λ v. seats_of (more k) (whose.Mapper v)) rule;
      calm = λ n. let z : true ≡ false = sym is.board ∙ n in cc;
      tells = tells;
      finds = λ _ _. (is.found, is.shows);
    }

    -- # A split

    pub next_is : (o : Option ℕ) → o ≡ next_of (splits_of setup) x.cursor → IsCall (Gave o) (NextSplit w) o
    next_is o is = let c : x.cursor + given_count o ≡ x.cursor + cond (nat_lt x.cursor (splits_of setup)) 1 0 = ap (λ n. x.cursor + n) (ap given_count is ∙ count_of (nat_lt x.cursor (splits_of setup)) x.cursor) in record {
      board = refl;
      at = refl;
      did = refl;
      found = is;
      words = λ i. record x { cursor = c i };
      shows = λ i. record (shown a0) { words = record x { cursor = c i } };
    }

    tells_next : w < setup.workers → (t : Bool) → nat_lt x.cursor (splits_of setup) ≡ t → TellsSplit (splits_of setup) (seats_of calls mine).given (cond t (Some x.cursor) None)
    tells_next inside true l = (ltb-true x.cursor (splits_of setup) l, λ m. let n = (h.splits.given w x.cursor inside m).1 in omega arith)
    tells_next inside false l = tt

    pub next_step : (o : Option ℕ) → o ≡ next_of (splits_of setup) x.cursor → w < setup.workers → Asks parts (NextSplit w) a0 → Steps true (NextSplit w) o a0 (b0 (Gave o))
    next_step o is inside asks = step_of (Gave o) (NextSplit w) o (next_is o is) (rule_kept (Gave o) (NextSplit w) o (next_is o is) inside asks)
        (subst (TellsSplit (splits_of setup) (seats_of calls mine).given) (sym is) (tells_next inside (nat_lt x.cursor (splits_of setup)) refl))

    -- # A number

    pub draw_is : (i n : ℕ) → n ≡ x.drawn i → IsCall (Drew' i n) (Draw w i) n
    draw_is i n is = record { board = refl; at = refl; did = refl; found = is; words = refl; shows = refl }

    pub draw_step : (i n : ℕ) → n ≡ x.drawn i → w < setup.workers → Asks parts (Draw w i) a0 → Steps true (Draw w i) n a0 (b0 (Drew' i n))
    draw_step i n is inside asks = step_of (Drew' i n) (Draw w i) n (draw_is i n is) (rule_kept (Drew' i n) (Draw w i) n (draw_is i n is) inside asks)
        (λ m d. subst (λ k. m < k) (sym is) (h.numbers.drew w i m inside d).1)

    -- # A winner

    same_self : (n : ℕ) → (n == n) ≡ true
    same_self n = eq-eqb n n refl

    lost : (i a c : ℕ) (k : Verdicts) → x.winner i ≡ Some c → ((n : ℕ) → k.won i n ≡ (c == n)) → (t : Bool) → (c == a) ≡ t → TellsVerdict setup.attempts i a (cond t Won (Lost c)) k
    lost i a c k at now true q = now a ∙ q
    lost i a c k at now false q = (now c ∙ same_self c, (h.verdicts.won i c at).below, not_eq c a q)

    verdict_by : (i a : ℕ) (k : Verdicts) (wn : Option ℕ) → x.winner i ≡ wn → ((n : ℕ) → k.won i n ≡ is_winner (with_winner wn a) n) → TellsVerdict setup.attempts i a (verdict_of wn a) k
    verdict_by i a k None at now = now a ∙ same_self a
    verdict_by i a k (Some c) at now = lost i a c k at now (c == a) refl

    pub commit_is : (i a : ℕ) (v : Verdict) → v ≡ verdict_of (x.winner i) a → IsCall (Committed i a v) (Commit w i a) v
    commit_is i a v is = record { board = refl; at = refl; did = refl; found = is; words = refl; shows = refl }

    pub commit_step : (i a : ℕ) (v : Verdict) → v ≡ verdict_of (x.winner i) a → w < setup.workers → Asks parts (Commit w i a) a0 → Steps true (Commit w i a) v a0 (b0 (Committed i a v))
    commit_step i a v is inside asks = step_of (Committed i a v) (Commit w i a) v (commit_is i a v is) (rule_kept (Committed i a v) (Commit w i a) v (commit_is i a v is) inside asks)
        (subst (λ u. TellsVerdict setup.attempts i a u (verdicts_of (words_after (Committed i a v) x))) (sym is)
        (verdict_by i a (verdicts_of (words_after (Committed i a v) x)) (x.winner i) refl (λ n. ap (λ y. is_winner y n) (at1-here x.winner i (with_winner (x.winner i) a)))))

    -- # A revocation

    pub revoke_is : (i a m : ℕ) → m ≡ with_bit (x.mask i) a → IsCall (Revoked i a m) (Revoke w i a) m
    revoke_is i a m is = record { board = refl; at = refl; did = refl; found = is; words = refl; shows = refl }

    pub revoke_step : (i a m : ℕ) → m ≡ with_bit (x.mask i) a → w < setup.workers → Asks parts (Revoke w i a) a0 → Steps true (Revoke w i a) m a0 (b0 (Revoked i a m))
    revoke_step i a m is inside asks = step_of (Revoked i a m) (Revoke w i a) m (revoke_is i a m is) (rule_kept (Revoked i a m) (Revoke w i a) m (revoke_is i a m is) inside asks)
        (ap (λ k. has_bit k a) is ∙ bit_set (x.mask i) a, λ n k. ap (λ y. has_bit y n) (at1-here x.mask i (with_bit (x.mask i) a) ∙ sym is) ∙ k)

  -- # Questions and seats

  asked_step : (who : Who) (q : Step) (o : Found q) → is_at_board q ≡ true → (deeds who calls).did ≡ after q o (deeds who calls).did → Tells q o (deeds who calls) (deeds who calls) → o ≡ finds q (shown (deeds who calls))
      → shown (deeds who calls) ≡ becomes q (shown (deeds who calls)) → Steps true q o (deeds who calls) (deeds who calls)
  asked_step who q o board did tells found shows = record {
    setup = refl;
    ends = refl;
    did = did;
    grows = grows_same (deeds who calls).told;
    right = λ _ k. k;
    calm = λ _. refl;
    tells = tells;
    finds = λ _ _. (found, shows);
  }

  pub winner_step : (who : Who) (i : ℕ) (o : Option ℕ) → o ≡ x.winner i → Steps true (AskWinner who i) o (deeds who calls) (deeds who calls)
  winner_step who i o is = asked_step who (AskWinner who i) o refl refl (tells_asked setup x (λ w. seats_of calls (whose.Mapper w)) h i o is) is refl

  pub is_revoked_step : (who : Who) (i a : ℕ) (o : Bool) → o ≡ has_bit (x.mask i) a → Steps true (AskRevoked who i a) o (deeds who calls) (deeds who calls)
  is_revoked_step who i a o is = asked_step who (AskRevoked who i a) o refl refl (λ k. is ∙ k, λ k. sym is ∙ k, known setup x (λ w. seats_of calls (whose.Mapper w)) h) is refl

  -- who knows a verdict from an older part of the calls knows it still
  pub join_step : (who : Who) (p i a : ℕ) (older : List Made) → Ends calls older → KnowsVerdict (verdicts_of (words_of older)) i a → Steps true (Join p i a) tt (deeds who calls) (deeds who calls)
  join_step who p i a older ends knows =
      let k = subst (λ (l : List Made). Knows (verdicts_of (words_of older)) (verdicts_of (words_of l))) (sym ends.1) (knows_later ends.0 older) in
      asked_step who (Join p i a) tt refl refl (⊎_elim (λ (won : (verdicts_of (words_of older)).won i a ≡ true). inl (k.won i a won)) (λ (gone : (verdicts_of (words_of older)).gone i a ≡ true). inr (k.gone i a gone)) knows) refl refl
