-- A trace tells all that it is the trace of.
use Rattle.std.proofs.Common.{◌≡◌, ℕ, ◌+◌, ◌<◌, ◌^◌, Bool, false, List, [], ◌∷◌, ◌++◌, length, map, refl, sym, ap, ◌∙◌, subst, arith, append_assoc, decimal}
use Rattle.std.specs.Prelude.{codes, All}
use Rattle.std.specs.List.{AllByRecursion, flat_map, enumerate_from}
use Rattle.std.proofs.lemmas.Bool.{true≢false}
use Rattle.std.proofs.lemmas.List.Elements.{recursion_from_All}
use Rattle.hop_event.specs.declared.event.Event.{Event}
use Rattle.hop_event.specs.declared.event.Event.TheVariants.{Arrive, Ignore, Won, Revoked, Restart, Finish}
use Rattle.hop_trace.specs.Trace.{event_line, begun_line, history_lines, begun_lines, all_histories, last_line, trace_lines, trace_of}
use Rattle.hop_trace.specs.Told.{IsToldNumber, IsToldEvent, IsTold, TellsOnly}
use Rattle.hop_trace.proofs.TextLaws.{IsLine, number_word, via_word, name_word, lines_told}
use Rattle.hop_trace.proofs.EventLaws.{first_is, number_told, event_told, no_event_reducer, no_event_last}

all_joined : {A : Type 0} (P : A → Type 0) (xs ys : List A) → AllByRecursion P xs → AllByRecursion P ys → AllByRecursion P (xs ++ ys)
all_joined P [] ys h k = k
all_joined P (x ∷ xs) ys h k = (h.0, all_joined P xs ys h.1 k)

-- the lines of a trace are lines
event_is_line : (e : Event) → IsToldEvent e → IsLine (event_line e)
event_is_line (Arrive part via) h = (refl, (number_word part.split h.0.split, (number_word part.attempt h.0.attempt, (number_word part.from h.0.from, (number_word part.to h.0.to, (via_word via h.1, tt))))))
event_is_line (Ignore part via have) h = (refl, (number_word part.split h.0.split, (number_word part.attempt h.0.attempt, (number_word part.from h.0.from, (number_word part.to h.0.to, (via_word via h.1, (number_word have h.2, tt)))))))
event_is_line (Won i a) h = (refl, (number_word i h.0, (number_word a h.1, tt)))
event_is_line (Revoked i a) h = (refl, (number_word i h.0, (number_word a h.1, tt)))
event_is_line Restart h = (refl, tt)
event_is_line Finish h = (refl, tt)

events_are_lines : (events : List Event) → AllByRecursion IsToldEvent events → AllByRecursion IsLine (map event_line events)
events_are_lines [] h = tt
events_are_lines (e ∷ events) h = (event_is_line e h.0, events_are_lines events h.1)

begun_are_lines : (i : ℕ) (begun : List ℕ) → IsToldNumber (i + length begun) → AllByRecursion IsToldNumber begun → AllByRecursion IsLine (map begun_line (enumerate_from i begun))
begun_are_lines i [] few h = tt
begun_are_lines i (a ∷ begun) few h = ((refl, (number_word i (omega (arith, few)), (number_word a h.0, tt))), begun_are_lines (i + 1) begun (omega (arith, few)) h.1)

histories_are_lines : (p : ℕ) (histories : List (List Event)) → IsToldNumber (p + length histories) → AllByRecursion (AllByRecursion IsToldEvent) histories → AllByRecursion IsLine (flat_map history_lines (enumerate_from p histories))
histories_are_lines p [] few h = tt
histories_are_lines p (events ∷ histories) few h = all_joined IsLine (history_lines (p, events)) (flat_map history_lines (enumerate_from (p + 1) histories)) ((refl, (number_word p (omega (arith, few)), tt)), events_are_lines events h.0) (histories_are_lines (p + 1) histories (omega (arith, few)) h.1)

each_all : (histories : List (List Event)) → AllByRecursion (All IsToldEvent) histories → AllByRecursion (AllByRecursion IsToldEvent) histories
each_all [] h = tt
each_all (events ∷ histories) h = (recursion_from_All IsToldEvent events h.0, each_all histories h.1)

trace_is_lines : (name begun : List ℕ) (histories : List (List Event)) → IsTold name begun histories → AllByRecursion IsLine (trace_lines name begun histories)
trace_is_lines name begun histories h =
    let numbers = begun_are_lines 0 begun (let few : 0 + length begun < 2 ^ 64 = omega (arith, h.splits) in few) (recursion_from_All IsToldNumber begun h.numbers) in
    let events = histories_are_lines 0 histories (let few : 0 + length histories < 2 ^ 64 = omega (arith, h.reducers) in few) (each_all histories (recursion_from_All (All IsToldEvent) histories h.events)) in (
      (refl, (refl, tt)),
      (
        (refl, (name_word name h.named, tt)),
        (
          (refl, (number_word (length begun) h.splits, tt)),
          (
            (refl, (number_word (length histories) h.reducers, tt)),
            all_joined IsLine (begun_lines begun) (all_histories histories ++ last_line ∷ []) numbers (all_joined IsLine (all_histories histories) (last_line ∷ []) events ((refl, tt), tt)),
          ),
        ),
      ),
    )

-- the first line is no event's
abbrev NoEvent : List (List (List ℕ)) → Type 0
NoEvent [] = Unit {0}
NoEvent (line ∷ lines) = (e : Event) → line ≡ event_line e → ⊥

-- the lines of events, and what follows them, are determined
events_told : (es fs : List Event) (r s : List (List (List ℕ))) → AllByRecursion IsToldEvent es → AllByRecursion IsToldEvent fs → NoEvent r → NoEvent s → map event_line es ++ r ≡ map event_line fs ++ s → (es ≡ fs) × (r ≡ s)
events_told [] [] r s h k i j e = (refl, e)
events_told [] (f ∷ fs) r s h k i j e = absurd (subst NoEvent e i f refl)
events_told (d ∷ es) [] r s h k i j e = absurd (subst NoEvent (sym e) j d refl)
events_told (d ∷ es) (f ∷ fs) r s h k i j e =
    let line : event_line d ≡ event_line f = cc in
    let lines : map event_line es ++ r ≡ map event_line fs ++ s = cc in
    let first = event_told d f h.0 k.0 line in
    let later = events_told es fs r s h.1 k.1 i j lines in
    let rest = later.0 in
    (cc, later.1)

behind_events : (p : ℕ) (histories : List (List Event)) → NoEvent (flat_map history_lines (enumerate_from p histories) ++ last_line ∷ [])
behind_events p [] = no_event_last
behind_events p (events ∷ histories) = no_event_reducer p

-- whether the first line has this first word
abbrev starts_with : List ℕ → List (List (List ℕ)) → Bool
starts_with word [] = false
starts_with word (line ∷ lines) = first_is word line

histories_told : (p : ℕ) (gs hs : List (List Event)) → AllByRecursion (AllByRecursion IsToldEvent) gs → AllByRecursion (AllByRecursion IsToldEvent) hs → flat_map history_lines (enumerate_from p gs) ++ last_line ∷ [] ≡ flat_map history_lines (enumerate_from p hs) ++ last_line ∷ [] → gs ≡ hs
histories_told p [] [] h k e = refl
histories_told p [] (f ∷ hs) h k e = absurd (true≢false (ap (starts_with (codes "end")) e))
histories_told p (d ∷ gs) [] h k e = absurd (true≢false (ap (starts_with (codes "reducer")) e))
histories_told p (d ∷ gs) (f ∷ hs) h k e =
    let later_gs : List (List (List ℕ)) = flat_map history_lines (enumerate_from (p + 1) gs) in
    let later_hs : List (List (List ℕ)) = flat_map history_lines (enumerate_from (p + 1) hs) in
    let lines : (map event_line d ++ later_gs) ++ last_line ∷ [] ≡ (map event_line f ++ later_hs) ++ last_line ∷ [] = cc in
    let both = events_told d f (later_gs ++ last_line ∷ []) (later_hs ++ last_line ∷ []) h.0 k.0 (behind_events (p + 1) gs) (behind_events (p + 1) hs) (sym (append_assoc (map event_line d) later_gs (last_line ∷ [])) ∙ lines ∙ append_assoc (map event_line f) later_hs (last_line ∷ [])) in
    let first = both.0 in
    let rest = histories_told (p + 1) gs hs h.1 k.1 both.1 in
    cc

-- the first line is no split's
abbrev NoBegun : List (List (List ℕ)) → Type 0
NoBegun [] = Unit {0}
NoBegun (line ∷ lines) = (x : ℕ × ℕ) → line ≡ begun_line x → ⊥

begun_told : (i : ℕ) (cs bs : List ℕ) (r s : List (List (List ℕ))) → AllByRecursion IsToldNumber cs → AllByRecursion IsToldNumber bs → NoBegun r → NoBegun s → map begun_line (enumerate_from i cs) ++ r ≡ map begun_line (enumerate_from i bs) ++ s → (cs ≡ bs) × (r ≡ s)
begun_told i [] [] r s h k m n e = (refl, e)
begun_told i [] (b ∷ bs) r s h k m n e = absurd (subst NoBegun e m (i, b) refl)
begun_told i (a ∷ cs) [] r s h k m n e = absurd (subst NoBegun (sym e) n (i, a) refl)
begun_told i (a ∷ cs) (b ∷ bs) r s h k m n e =
    let digits : decimal a ≡ decimal b = cc in
    let lines : map begun_line (enumerate_from (i + 1) cs) ++ r ≡ map begun_line (enumerate_from (i + 1) bs) ++ s = cc in
    let first = number_told a b h.0 k.0 digits in
    let later = begun_told (i + 1) cs bs r s h.1 k.1 m n lines in
    let rest = later.0 in
    (cc, later.1)

behind_begun : (histories : List (List Event)) → NoBegun (all_histories histories ++ last_line ∷ [])
behind_begun [] = λ x e. true≢false (ap (first_is (codes "end")) e)
behind_begun (events ∷ histories) = λ x e. true≢false (ap (first_is (codes "reducer")) e)

pub trace_told : (name begun : List ℕ) (histories : List (List Event)) → IsTold name begun histories → TellsOnly (trace_of name begun histories) name begun histories
trace_told name begun histories h name' begun' histories' k e =
    let lines = lines_told (trace_lines name' begun' histories') (trace_lines name begun histories) (trace_is_lines name' begun' histories' k) (trace_is_lines name begun histories h) e in
    let named : name' ≡ name = cc in
    let rest : begun_lines begun' ++ (all_histories histories' ++ last_line ∷ []) ≡ begun_lines begun ++ (all_histories histories ++ last_line ∷ []) = cc in
    let both = begun_told 0 begun' begun (all_histories histories' ++ last_line ∷ []) (all_histories histories ++ last_line ∷ []) (recursion_from_All IsToldNumber begun' k.numbers) (recursion_from_All IsToldNumber begun h.numbers) (behind_begun histories') (behind_begun histories) rest in
    (named, both.0, histories_told 0 histories' histories (each_all histories' (recursion_from_All (All IsToldEvent) histories' k.events)) (each_all histories (recursion_from_All (All IsToldEvent) histories h.events)) both.1)
