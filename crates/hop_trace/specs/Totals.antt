-- Numbers of a whole run.
use Rattle.std.specs.Prelude.{ℕ, Bool, true, false, List, length, sum_by, count_by}
use Rattle.hop_event.specs.declared.event.Event.{Event}
use Rattle.hop_event.specs.declared.event.Event.TheVariants.{Arrive, Ignore, Won, Revoked, Restart, Finish}
use Rattle.hop_event.specs.declared.event.Via.{Via}
use Rattle.hop_event.specs.declared.event.Via.TheVariants.{Lane, Late, Pull}
use Rattle.hop_trace.specs.declared.totals.Way.{Way}
use Rattle.hop_trace.specs.declared.totals.Way.TheVariants.{Pulled, Settled}

-- whether a range came this way
abbrev pub is_way : Way → Via → Bool
is_way Pulled Pull = true
is_way Pulled (Lane w) = false
is_way Pulled (Late w) = false
is_way Settled (Late w) = true
is_way Settled (Lane w) = false
is_way Settled Pull = false

-- whether the event is a range that came this way and was kept
abbrev pub is_kept : Way → Event → Bool
is_kept way (Arrive part via) = is_way way via
is_kept way (Ignore part via have) = false
is_kept way (Won i a) = false
is_kept way (Revoked i a) = false
is_kept way Restart = false
is_kept way Finish = false

-- how many ranges came this way and were kept, in all histories
abbrev pub kept_in_all : Way → List (List Event) → ℕ
kept_in_all way histories = sum_by (λ events. count_by (is_kept way) events) histories

-- how many events there are in all histories
abbrev pub events_in_all : List (List Event) → ℕ
events_in_all histories = sum_by (λ events. length events) histories
