use Rattle.std.proofs.Common.{◌≡◌, ◌-◌}
use Rattle.hop_spill.specs.Reading.{sheets_at}
use Rattle.hop_spill.proofs.LoopLaws.{with_front}
use Rattle.hop_spill.proofs.decoding.sheets_of.Given as goal

abbrev pub invariant-loop-p : goal.invariant-loop-p
invariant-loop-p l = with_front l.sheets (sheets_at (l.reducers - l.p) l.p l.reducers l.rest) ≡ sheets_at l.reducers 0 l.reducers l.bytes
