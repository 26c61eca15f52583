use Rattle.std.proofs.Common.{true, false, refl}
use Rattle.hop_records.specs.Records.{lens_of}
use Rattle.hop_shelf.specs.Names.{book_of}
use Rattle.hop_actor_tests.specs.Runs.{narrow_records, four_marks, falling_settings}
use Rattle.hop_actor_tests.proofs.Beginnings.{none_reached}
use Rattle.hop_actor_tests.proofs.cuts.a_mark_that_is_reached_again_is_not_cut_again.Goals as goal

pub with_marks-requires-clause-unreached : goal.with_marks-requires-clause-unreached
with_marks-requires-clause-unreached c = λ _. none_reached true (lens_of (book_of narrow_records falling_settings)) four_marks refl
