-- The end of a mapper whose running attempt fails, wins or loses.
use Rattle.std.proofs.Common.{◌≡◌, ◌⊎◌, ℕ, ◌<◌, Bool, true, false, refl, sym, ap, ◌∙◌, subst, arith, inl, inr}
use Rattle.std.proofs.lemmas.Bool.{cases_order}
use Rattle.hop_event.specs.Legal.{Rules}
use Rattle.hop_machine.specs.declared.words.Verdict.TheVariants.{Won, Lost}
use Rattle.hop_machine.specs.step.Steps.{Seat, Verdicts, Among, Drew}
use Rattle.hop_machine.specs.actors.MapperTurns.{Running, Runs, Retries, Free}
use Rattle.hop_machine.specs.home.Said.{attempt_of, Committed, RevokedIt, IsSpent, IsToFail}
use Rattle.hop_machine.specs.home.MapperHome.{KnowsWinner, HasFailed, IsFollowed, BoardWell}
use Rattle.hop_machine.proofs.mapper.HomeLists.{among_last}
use Rattle.hop_machine.proofs.mapper.HomeBoard.{with_revoked, with_committed, revoked_more, revoked_new, answered_parts, revoked_parts, committed_more, committed_parts, Ends, seat_ends, followed_on, alone_on}

module _ (rules : Rules) (backup dry : Bool) (r : Running) (s : Seat) (k : Verdicts) (h : BoardWell rules backup dry (Runs r) s k) where
  abbrev i : ℕ
  i = r.split

  abbrev a : ℕ
  a = r.attempt

  -- it failed, and its split is to be tried again
  pub board_fails : (mask : ℕ) → IsToFail rules i a → k.gone i a ≡ true → (IsSpent rules.attempts mask → KnowsWinner k i) → BoardWell rules backup dry (Retries i) (with_revoked s i a mask) k
  board_fails mask line gone spent = record {
    seat = seat_ends rules r s (with_revoked s i a mask) e (Retries i) (λ q w. cc) (λ j w. cc) h.seat;
    own = record { won = h.own.won; gone = λ j b c. own_gone j b (revoked_parts s i a mask j b c) };
    followed = λ j b c. follow j b (revoked_parts s i a mask j b c);
    spent = λ j m c f. all_spent j m c.0 (answered_parts s i a mask j c.0 m c.1) f;
    alone = λ n. alone_on rules r s (with_revoked s i a mask) e (Retries i) (h.alone n) (λ j b w c. again n j b (let q : i ≡ j = cc in q) c (cases_order b a));
    past = h.past;
  }
    where
      e : Ends s (with_revoked s i a mask) i a
      e = record {
        drew = refl;
        given = refl;
        committed = λ j b c. c;
        revoked = revoked_more s i a mask;
        committed_parts = λ j b c. inl c;
        revoked_parts = revoked_parts s i a mask;
        ended = inr (revoked_new s i a mask);
      }

      own_gone : (j b : ℕ) → RevokedIt s j b ⊎ ((i ≡ j) × (a ≡ b)) → k.gone j b ≡ true
      own_gone j b (inl c) = h.own.gone j b c
      own_gone j b (inr c) = (λ z. k.gone (sym c.0 z) (sym c.1 z)) ∙ gone

      follow : (j b : ℕ) → RevokedIt s j b ⊎ ((i ≡ j) × (a ≡ b)) → IsFollowed (Retries i) (with_revoked s i a mask) k j b
      follow j b (inl c) = followed_on rules r s (with_revoked s i a mask) e (Retries i) k j b (h.followed j b c)
      follow j b (inr c) = inl (ap Retries c.0)

      all_spent : (j m b : ℕ) → Among (attempt_of j b, m) s.revoked ⊎ ((i ≡ j) × (a ≡ b) × (mask ≡ m)) → IsSpent rules.attempts m → KnowsWinner k j
      all_spent j m b (inl c) f = h.spent j m (b, c) f
      all_spent j m b (inr c) f = subst (λ x. KnowsWinner k x) c.0 (spent (subst (λ x. IsSpent rules.attempts x) (sym c.2) f))

      again : backup ≡ false → (j b : ℕ) → i ≡ j → Drew s j b → (b ≡ a) ⊎ ((b < a) ⊎ (a < b)) → HasFailed rules (with_revoked s i a mask) j b
      again n j b q c (inl w) = subst (λ (x : ℕ × ℕ). HasFailed rules (with_revoked s i a mask) x.0 x.1) (λ z. (q z, sym w z)) (line, revoked_new s i a mask)
      again n j b q c (inr (inl w)) =
          let d = (h.seat.running r refl).is.began.drawn in
          let f = (h.alone n).later i b a (subst (λ x. Drew s x b) (sym q) c) d w in
          subst (λ x. HasFailed rules (with_revoked s i a mask) x b) q (f.0, revoked_more s i a mask i b f.1)
      again n j b q c (inr (inr w)) = let l = (h.seat.running r refl).last b (subst (λ x. Drew s x b) (sym q) c) in absurd (omega arith)

  -- it won
  pub board_won : k.won i a ≡ true → BoardWell rules backup dry Free (with_committed s i a Won) k
  board_won won = record {
    seat = seat_ends rules r s (with_committed s i a Won) e Free (λ q w. cc) (λ j w. cc) h.seat;
    own = record { won = λ j b c. own_won j b (committed_parts s i a Won j b c); gone = h.own.gone };
    followed = λ j b c. followed_on rules r s (with_committed s i a Won) e Free k j b (h.followed j b c);
    spent = h.spent;
    alone = λ n. alone_on rules r s (with_committed s i a Won) e Free (h.alone n) (λ j b w c. cc);
    past = h.past;
  }
    where
      e : Ends s (with_committed s i a Won) i a
      e = record {
        drew = refl;
        given = refl;
        committed = committed_more s i a Won;
        revoked = λ j b c. c;
        committed_parts = λ j b c. of j b (committed_parts s i a Won j b c);
        revoked_parts = λ j b c. inl c;
        ended = inl (among_last s.committed (attempt_of i a, Won));
      }
        where
          of : (j b : ℕ) → Committed s j b ⊎ ((i ≡ j) × (a ≡ b) × (Won ≡ Won)) → Committed s j b ⊎ ((i ≡ j) × (a ≡ b))
          of j b (inl c) = inl c
          of j b (inr c) = inr (c.0, c.1)

      own_won : (j b : ℕ) → Committed s j b ⊎ ((i ≡ j) × (a ≡ b) × (Won ≡ Won)) → k.won j b ≡ true
      own_won j b (inl c) = h.own.won j b c
      own_won j b (inr c) = (λ z. k.won (sym c.0 z) (sym c.1 z)) ∙ won

  abbrev lost_seat : ℕ → Seat
  lost_seat w = with_committed s i a (Lost w)

  abbrev gone_seat : ℕ → ℕ → Seat
  gone_seat w mask = with_revoked (lost_seat w) i a mask

  -- it lost, and was revoked
  pub board_lost : (b mask : ℕ) → k.won i b ≡ true → k.gone i a ≡ true → BoardWell rules backup dry Free (with_revoked (with_committed s i a (Lost b)) i a mask) k
  board_lost w mask won gone = record {
    seat = seat_ends rules r s (gone_seat w mask) e Free (λ q z. cc) (λ j z. cc) h.seat;
    own = record { won = λ j b c. h.own.won j b (lost j b (committed_parts s i a (Lost w) j b c)); gone = λ j b c. own_gone j b (revoked_parts (lost_seat w) i a mask j b c) };
    followed = λ j b c. follow j b (revoked_parts (lost_seat w) i a mask j b c);
    spent = λ j m c f. all_spent j m c.0 (answered_parts (lost_seat w) i a mask j c.0 m c.1) f;
    alone = λ n. alone_on rules r s (gone_seat w mask) e Free (h.alone n) (λ j b z c. cc);
    past = h.past;
  }
    where
      lost : (j b : ℕ) → Committed s j b ⊎ ((i ≡ j) × (a ≡ b) × (Lost w ≡ Won)) → Committed s j b
      lost j b (inl c) = c
      lost j b (inr c) = let z = c.2 in cc

      e : Ends s (gone_seat w mask) i a
      e = record {
        drew = refl;
        given = refl;
        committed = committed_more s i a (Lost w);
        revoked = revoked_more (lost_seat w) i a mask;
        committed_parts = λ j b c. inl (lost j b (committed_parts s i a (Lost w) j b c));
        revoked_parts = revoked_parts (lost_seat w) i a mask;
        ended = inr (revoked_new (lost_seat w) i a mask);
      }

      own_gone : (j b : ℕ) → RevokedIt s j b ⊎ ((i ≡ j) × (a ≡ b)) → k.gone j b ≡ true
      own_gone j b (inl c) = h.own.gone j b c
      own_gone j b (inr c) = (λ z. k.gone (sym c.0 z) (sym c.1 z)) ∙ gone

      follow : (j b : ℕ) → RevokedIt s j b ⊎ ((i ≡ j) × (a ≡ b)) → IsFollowed Free (gone_seat w mask) k j b
      follow j b (inl c) = followed_on rules r s (gone_seat w mask) e Free k j b (h.followed j b c)
      follow j b (inr c) = inr (inl (w, (λ z. k.won (sym c.0 z) w) ∙ won))

      all_spent : (j m b : ℕ) → Among (attempt_of j b, m) s.revoked ⊎ ((i ≡ j) × (a ≡ b) × (mask ≡ m)) → IsSpent rules.attempts m → KnowsWinner k j
      all_spent j m b (inl c) f = h.spent j m (b, c) f
      all_spent j m b (inr c) f = (w, (λ z. k.won (sym c.0 z) w) ∙ won)
