use Rattle.hop_spill.specs.Spelling.{spill_in}
use Rattle.hop_spill.proofs.SpillLaws.{no_prefix}
use Rattle.hop_spill.proofs.encoding.encode_flat.Goals as goal

pub returns-clause-apart : goal.returns-clause-apart
returns-clause-apart c = λ other rest h e. no_prefix (spill_in c.args.spill.now) other rest c.requires h e
