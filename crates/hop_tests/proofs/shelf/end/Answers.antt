use Rattle.hop_tests.proofs.SampleLaws.{two_named}
use Rattle.hop_tests.proofs.shelf.end.Goals as goal

pub finish-requires-clause-named : goal.finish-requires-clause-named
finish-requires-clause-named c = two_named _ _ c.known.ensures.sound.legal
