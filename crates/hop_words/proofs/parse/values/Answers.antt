use Rattle.clap.specs.Matches.{found_of}
use Rattle.hop_words.proofs.ClapAgrees.{values_read}
use Rattle.hop_words.proofs.parse.values.Goals as goal

pub returns : goal.returns
returns c = values_read (found_of c.args.matches.now) c.args.id.now c.get_raw.result c.get_raw.ensures
