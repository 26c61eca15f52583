-- The cuts of small histories, computed by the checker.
use Rattle.std.proofs.Common.{◌≡◌, [], ◌∷◌, refl}
use Rattle.hop_event.specs.Coverage.{leader}
use Rattle.hop_event.specs.declared.event.Event.TheVariants.{Finish}
use Rattle.hop_machine.specs.home.ReducerHome.{cuts_of}
use Rattle.hop_machine.specs.play.Worked.{tentative}
use Rattle.hop_ending.specs.WorkedCuts.{with_marks, cut_said, half_arrived, half_again, all_arrived}

pub half_cuts : cuts_of (with_marks (2 ∷ [])) half_arrived ≡ cut_said 2000 5000 (tentative 0 1 ∷ []) ∷ cut_said 5000 5000 (tentative 0 1 ∷ []) ∷ []
unfolding leader
half_cuts = refl

pub again_cuts : cuts_of (with_marks (2 ∷ [])) half_again ≡ cut_said 2000 5000 (tentative 0 1 ∷ []) ∷ cut_said 5000 5000 (tentative 0 1 ∷ []) ∷ []
unfolding leader
again_cuts = refl

pub all_cuts : cuts_of (with_marks (2 ∷ [])) all_arrived ≡ cut_said 2000 5000 (tentative 0 1 ∷ []) ∷ cut_said 5000 5000 (tentative 0 1 ∷ []) ∷ cut_said 8000 10000 (tentative 0 2 ∷ []) ∷ []
unfolding leader
all_cuts = refl

pub empty_cuts : cuts_of (with_marks (2 ∷ [])) [] ≡ []
unfolding leader
empty_cuts = refl

pub no_splits_cuts : cuts_of (with_marks []) (Finish ∷ []) ≡ cut_said 2000 10000 [] ∷ cut_said 5000 10000 [] ∷ cut_said 8000 10000 [] ∷ []
no_splits_cuts = refl
