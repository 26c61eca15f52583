use Rattle.hop_board.proofs.SharedLogLaws.{opens}
use Rattle.hop_board.proofs.shared_log.SharedLog.new.Goals as goal

pub of_words-requires : goal.of_words-requires
of_words-requires g c = opens
