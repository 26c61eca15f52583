-- What a step adds to what the ends did.
use Rattle.std.specs.Prelude.{ℕ, ◌+◌, ◌-◌, ◌^◌, Bool, true, false, [], ◌∷◌, ◌++◌, Option, Some, None, if◌then◌else◌, ◌==◌, ◌&&◌}
use Rattle.hop_machine.specs.declared.words.Who.{Who}
use Rattle.hop_machine.specs.declared.words.Who.TheVariants as whose
use Rattle.hop_machine.specs.step.Step.{Value, Step, Found, Send, Take, NextSplit, Draw, Commit, Revoke, AskWinner, AskRevoked, Join, TryHold, Hold, Record, GiveBack, SendCut, TakeCut, Risk}
use Rattle.hop_machine.specs.step.Deeds.{Sent, Taken, Seat, Kept, Did}

-- the function with another value at one place
abbrev pub at1 : {A : Type 0} → (ℕ → A) → ℕ → A → ℕ → A
at1 f i x j = if j == i then x else f j

-- the same of a function of two places
abbrev pub at2 : {A : Type 0} → (ℕ → ℕ → A) → ℕ → ℕ → A → ℕ → ℕ → A
at2 f w p x v q = if (v == w) && (q == p) then x else f v q

-- whether these are one actor
abbrev pub same_actor : Who → Who → Bool
same_actor (whose.Mapper w) (whose.Mapper v) = w == v
same_actor (whose.Reducer w) (whose.Reducer v) = w == v
same_actor (whose.Merger w) (whose.Merger v) = w == v
same_actor whose.Writer whose.Writer = true
same_actor _ _ = false

-- the function with another value at one actor
abbrev pub at_actor : {A : Type 0} → (Who → A) → Who → A → Who → A
at_actor f who x other = if same_actor other who then x else f other

-- a count that stays at its greatest value
abbrev pub once_more : ℕ → ℕ
once_more n = if n == 2 ^ 64 - 1 then n else n + 1

-- what a sender did with one message more, or with one answer more that its lane was full
abbrev pub sending : {A : Type 0} → A → Bool → Sent A → Sent A
sending m true x = record x { sent = x.sent ++ m ∷ [] }
sending m false x = record x { fulls = once_more x.fulls }

-- what a receiver did with one message more, or with one answer more that its lane was empty
abbrev pub taking : {A : Type 0} → Option A → Taken A → Taken A
taking None x = record x { nones = once_more x.nones }
taking (Some m) x = record x { taken = x.taken ++ m ∷ [] }

-- what an end did with one question more for a split
abbrev pub next_split_of : Option ℕ → Seat → Seat
next_split_of None x = record x { past = true; calls = x.calls + 1 }
next_split_of (Some i) x = record x { given = x.given ++ i ∷ []; calls = x.calls + 1 }

-- what a recorder's end did with one try more
abbrev pub holding : Option Value → Kept → Kept
holding None x = record x { busy = once_more x.busy }
holding (Some h) x = record x { held = true }

-- what all ends did after the step
abbrev pub after : (s : Step) → Found s → Did → Did
after (Send w p m) o d = record d { outs = at2 d.outs w p (sending m o (d.outs w p)) }
after (Take w p) o d = record d { ins = at2 d.ins w p (taking o (d.ins w p)) }
after (NextSplit w) o d = record d { seats = at_actor d.seats (whose.Mapper w) (next_split_of o (d.seats (whose.Mapper w))) }
after (Draw w i) o d =
    let x = d.seats (whose.Mapper w) in
    record d { seats = at_actor d.seats (whose.Mapper w) (record x { drew = x.drew ++ (record { split = i; number = o }) ∷ []; calls = x.calls + 1 }) }
after (Commit w i a) o d =
    let x = d.seats (whose.Mapper w) in
    record d { seats = at_actor d.seats (whose.Mapper w) (record x { committed = x.committed ++ (record { split = i; number = a }, o) ∷ [] }) }
after (Revoke w i a) o d =
    let x = d.seats (whose.Mapper w) in
    record d { seats = at_actor d.seats (whose.Mapper w) (record x { revoked = x.revoked ++ (record { split = i; number = a }, o) ∷ [] }) }
after (AskWinner who i) o d = d
after (AskRevoked who i a) o d = d
after (Join p i a) o d = d
after (TryHold p) o d = record d { keeps = at1 d.keeps p (holding o (d.keeps p)) }
after (Hold p) o d = record d { keeps = at1 d.keeps p (record (d.keeps p) { held = true }) }
after (Record p e) o d = record d { keeps = at1 d.keeps p (record (d.keeps p) { events = e ∷ (d.keeps p).events }) }
after (GiveBack p due) o d = record d { keeps = at1 d.keeps p (record (d.keeps p) { due = due; held = false }) }
after (SendCut p c) o d = record d { cut_outs = at1 d.cut_outs p (sending c o (d.cut_outs p)) }
after (TakeCut p) o d = record d { cut_ins = at1 d.cut_ins p (taking o (d.cut_ins p)) }
after Risk o d = d
