use Rattle.std.proofs.Common.{true, false, refl}
use Rattle.hop_records.specs.Records.{lens_of}
use Rattle.hop_shelf.specs.Names.{book_of}
use Rattle.hop_actor_tests.specs.Runs.{narrow_records, four_marks, tentative_settings}
use Rattle.hop_actor_tests.proofs.Beginnings.{none_reached}
use Rattle.hop_actor_tests.proofs.cuts.a_record_cuts_the_marks_that_it_reaches.Goals as goal

pub with_marks-requires-clause-unreached : goal.with_marks-requires-clause-unreached
with_marks-requires-clause-unreached c = λ _. none_reached true (lens_of (book_of narrow_records tentative_settings)) four_marks refl
