use Rattle.hop_trace.proofs.TellingLaws.{trace_told}
use Rattle.hop_trace.proofs.laws.trace_tells_only.Goals as goal

pub returns : goal.returns
returns c = trace_told
