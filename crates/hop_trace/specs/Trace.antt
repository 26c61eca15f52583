-- The text of a trace: its lines, each by its words.
use Rattle.std.specs.Prelude.{ℕ, List, [], ◌∷◌, ◌++◌, length, map, reverse, codes, decimal}
use Rattle.std.specs.List.{flat_map, enumerate_from}
use Rattle.hop_event.specs.declared.event.Event.{Event}
use Rattle.hop_event.specs.declared.event.Event.TheVariants.{Arrive, Ignore, Won, Revoked, Restart, Finish}
use Rattle.hop_event.specs.declared.event.Via.{Via}
use Rattle.hop_event.specs.declared.event.Via.TheVariants.{Lane, Late, Pull}
use Rattle.hop_event.specs.History.{HistoryValue}

-- how a range came to its reducer
abbrev pub via_text : Via → List ℕ
via_text (Lane w) = codes "w" ++ decimal w
via_text (Late w) = codes "s" ++ decimal w
via_text Pull = codes "pull"

-- an event's words
abbrev pub event_line : Event → List (List ℕ)
event_line (Arrive part via) = codes "arrive" ∷ decimal part.split ∷ decimal part.attempt ∷ decimal part.from ∷ decimal part.to ∷ via_text via ∷ []
event_line (Ignore part via have) = codes "ignore" ∷ decimal part.split ∷ decimal part.attempt ∷ decimal part.from ∷ decimal part.to ∷ via_text via ∷ decimal have ∷ []
event_line (Won i a) = codes "won" ∷ decimal i ∷ decimal a ∷ []
event_line (Revoked i a) = codes "revoked" ∷ decimal i ∷ decimal a ∷ []
event_line Restart = codes "restart" ∷ []
event_line Finish = codes "finish" ∷ []

-- a word and a number
abbrev pub number_line : List ℕ → ℕ → List (List ℕ)
number_line word n = word ∷ decimal n ∷ []

-- how many attempts of split i were begun
abbrev pub begun_line : ℕ × ℕ → List (List ℕ)
begun_line (i, attempts) = codes "begun" ∷ decimal i ∷ decimal attempts ∷ []

-- the line of reducer p, and those of its events
abbrev pub history_lines : ℕ × List Event → List (List (List ℕ))
history_lines (p, events) = number_line (codes "reducer") p ∷ map event_line events

-- the lines of the splits
abbrev pub begun_lines : List ℕ → List (List (List ℕ))
begun_lines begun = map begun_line (enumerate_from 0 begun)

-- the lines of the reducers
abbrev pub all_histories : List (List Event) → List (List (List ℕ))
all_histories histories = flat_map history_lines (enumerate_from 0 histories)

-- the format and the job, and how many splits and reducers there are
abbrev pub first_lines : List ℕ → ℕ → ℕ → List (List (List ℕ))
first_lines name splits reducers = (codes "hop-trace" ∷ codes "1" ∷ []) ∷ (codes "job" ∷ name ∷ []) ∷ number_line (codes "splits") splits ∷ number_line (codes "reducers") reducers ∷ []

abbrev pub last_line : List (List ℕ)
last_line = codes "end" ∷ []

-- the lines of a trace
abbrev pub trace_lines : List ℕ → List ℕ → List (List Event) → List (List (List ℕ))
trace_lines name begun histories = first_lines name (length begun) (length histories) ++ (begun_lines begun ++ (all_histories histories ++ last_line ∷ []))

-- the words with one space between, and the line feed
abbrev pub line_text : List (List ℕ) → List ℕ
line_text [] = 10 ∷ []
line_text (word ∷ []) = word ++ 10 ∷ []
line_text (word ∷ next ∷ words) = word ++ 32 ∷ line_text (next ∷ words)

-- lines as a text
abbrev pub text_of : List (List (List ℕ)) → List ℕ
text_of lines = flat_map line_text lines

-- the trace of a job's run: of each split how many attempts were begun, and of each reducer the events in their order
abbrev pub trace_of : List ℕ → List ℕ → List (List Event) → List ℕ
trace_of name begun histories = text_of (trace_lines name begun histories)

-- the events of these histories, each in its order
abbrev pub in_order : List HistoryValue → List (List Event)
in_order histories = map (λ h. reverse h.events) histories
