use Rattle.std.proofs.Common.{◌≡◌, ◌≤◌, length, map, drop}
use Rattle.hop_base.specs.Ranges.{last_mark}
use Rattle.hop_words.specs.Marks.{marks_above}
use Rattle.hop_words.proofs.MarksLaws.{with_marks}
use Rattle.hop_words.proofs.marks.ascending.Given as goal

-- the marks so far, and what the texts behind them write
abbrev pub invariant-loop-text : goal.invariant-loop-text
invariant-loop-text l = record {
  count : length l.marks ≡ l.text-index;
  last : last_mark l.marks ≡ l.low;
  most : l.low ≤ 10000;
  told : marks_above 0 (map (λ t. t.now) l.texts) ≡ with_marks l.marks (marks_above l.low (map (λ t. t.now) (drop l.text-index l.texts)));
}
