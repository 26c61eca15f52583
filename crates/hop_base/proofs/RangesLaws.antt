-- Marks stay ascending when a greater one is put behind them.
use Rattle.std.proofs.Common.{ℕ, ◌<◌, ◌≤◌, List, [], ◌∷◌, ◌++◌, length, arith, length-append}
use Rattle.hop_base.specs.Ranges.{AreMarks, AscendFrom, last_mark}

ascend_more : (low mark : ℕ) (marks : List ℕ) → AscendFrom low marks → low < mark → last_mark marks < mark → mark ≤ 10000 → AscendFrom low (marks ++ mark ∷ [])
ascend_more low mark [] h first above most = (first, most, tt)
ascend_more low mark (m ∷ []) h first above most = (h.0, h.1, (above, most, tt))
ascend_more low mark (m ∷ n ∷ marks) h first above most = (h.0, h.1, ascend_more m mark (n ∷ marks) h.2 (first_below m n marks h.2 above) above most)
  where
    first_below : (low n : ℕ) (marks : List ℕ) → AscendFrom low (n ∷ marks) → last_mark (n ∷ marks) < mark → low < mark
    first_below low n [] h above = omega (arith, h.0)
    first_below low n (o ∷ marks) h above = omega (arith, h.0, first_below n o marks h.2 above)

pub marks_more : (marks : List ℕ) (mark : ℕ) → AreMarks marks → length marks < 16 → last_mark marks < mark → mark ≤ 10000 → AreMarks (marks ++ mark ∷ [])
marks_more marks mark h room above most = record {
  few = omega (arith, length-append marks (mark ∷ []));
  ascending = ascend_more 0 mark marks h.ascending (omega arith) above most;
}
