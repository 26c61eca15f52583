use Rattle.std.proofs.Common.{ap, sym, ◌∙◌, arith}
use Rattle.hop_spill.specs.Reading.{spill_at}
use Rattle.hop_spill.specs.Spelling.{spill_in}
use Rattle.hop_spill.proofs.PlaceLaws.{stops_as_answered}
use Rattle.hop_spill.proofs.SpillLaws.{spill_takes, spill_again, not_stopped}
use Rattle.hop_spill.proofs.decoding.decode_flat.Goals as goal

pub returns-in-Ok-clause-found : goal.returns-in-Ok-clause-found
returns-in-Ok-clause-found c = spill_takes c.args.bytes.now (spill_in c.in-Ok.spill) (λ i. omega (arith, c.type_inv.bytes i)) c.in-Ok.ensures

pub returns-in-Ok-clause-only : goal.returns-in-Ok-clause-only
returns-in-Ok-clause-only c = λ spill h e. sym (ap spill_at e ∙ spill_again spill h) ∙ c.in-Ok.ensures

pub returns-in-Err-Left-clause-only : goal.returns-in-Err-Left-clause-only
returns-in-Err-Left-clause-only c = λ spill h e. absurd (not_stopped (spill_at c.args.bytes.now) spill c.in-Err-Left.left (ap spill_at e ∙ spill_again spill h) (rw c.in-Err-Left.field-0-is at c.in-Err-Left.ensures))

pub returns-in-Err-Left-clause-stops : goal.returns-in-Err-Left-clause-stops
returns-in-Err-Left-clause-stops c = λ place e.
    let left = c.in-Err-Left.left in
    stops_as_answered c.args.bytes.now left c.saturating_sub.result place (rw c.in-Err-Left.field-0-is at c.in-Err-Left.ensures) (c.saturating_sub.ensures) e
