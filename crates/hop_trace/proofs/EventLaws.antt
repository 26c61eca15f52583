-- An event is told by its line.
use Rattle.std.proofs.Common.{◌≡◌, ℕ, ◌==◌, Bool, false, List, [], ◌∷◌, refl, ap, ◌∙◌, decimal}
use Rattle.std.specs.Prelude.{codes}
use Rattle.std.specs.Str.{bytes_eq}
use Rattle.std.proofs.lemmas.Bool.{true≢false}
use Rattle.std.proofs.lemmas.Fmt.{decimal_injective}
use Rattle.hop_base.specs.declared.part.Part.{Part}
use Rattle.hop_event.specs.declared.event.Event.{Event}
use Rattle.hop_event.specs.declared.event.Event.TheVariants.{Arrive, Ignore, Won, Revoked, Restart, Finish}
use Rattle.hop_event.specs.declared.event.Via.{Via}
use Rattle.hop_event.specs.declared.event.Via.TheVariants.{Lane, Late, Pull}
use Rattle.hop_trace.specs.Trace.{via_text, event_line, number_line, last_line}
use Rattle.hop_trace.specs.Told.{IsToldNumber, IsToldRange, IsToldVia, IsToldEvent}

pub number_told : (m n : ℕ) → IsToldNumber m → IsToldNumber n → decimal m ≡ decimal n → m ≡ n
number_told m n h k e = decimal_injective m n h k e

abbrev begins_with : ℕ → List ℕ → Bool
begins_with b [] = false
begins_with b (c ∷ cs) = c == b

-- whether the line has this first word
abbrev pub first_is : List ℕ → List (List ℕ) → Bool
first_is word [] = false
first_is word (first ∷ words) = bytes_eq first word

via_told : (v u : Via) → IsToldVia v → IsToldVia u → via_text v ≡ via_text u → v ≡ u
via_told (Lane w) (Lane x) h k e = let digits : decimal w ≡ decimal x = cc in ap Lane (number_told w x h k digits)
via_told (Lane w) (Late x) h k e = absurd (true≢false (ap (begins_with 119) e))
via_told (Lane w) Pull h k e = absurd (true≢false (ap (begins_with 119) e))
via_told (Late w) (Lane x) h k e = absurd (true≢false (ap (begins_with 115) e))
via_told (Late w) (Late x) h k e = let digits : decimal w ≡ decimal x = cc in ap Late (number_told w x h k digits)
via_told (Late w) Pull h k e = absurd (true≢false (ap (begins_with 115) e))
via_told Pull (Lane x) h k e = absurd (true≢false (ap (begins_with 112) e))
via_told Pull (Late x) h k e = absurd (true≢false (ap (begins_with 112) e))
via_told Pull Pull h k e = refl

abbrev range_of : ℕ → ℕ → ℕ → ℕ → Part
range_of split attempt from to = record { split = split; attempt = attempt; from = from; to = to }

range_told : (p q : Part) → IsToldRange p → IsToldRange q → decimal p.split ≡ decimal q.split → decimal p.attempt ≡ decimal q.attempt → decimal p.from ≡ decimal q.from → decimal p.to ≡ decimal q.to → p ≡ q
range_told p q h k s a f t =
    ap (λ n. range_of n p.attempt p.from p.to) (number_told p.split q.split h.split k.split s)
    ∙ ap (λ n. range_of q.split n p.from p.to) (number_told p.attempt q.attempt h.attempt k.attempt a)
    ∙ ap (λ n. range_of q.split q.attempt n p.to) (number_told p.from q.from h.from k.from f)
    ∙ ap (λ n. range_of q.split q.attempt q.from n) (number_told p.to q.to h.to k.to t)

pub event_told : (e f : Event) → IsToldEvent e → IsToldEvent f → event_line e ≡ event_line f → e ≡ f
event_told (Arrive part via) (Arrive part' via') h k e =
    let s : decimal part.split ≡ decimal part'.split = cc in
    let a : decimal part.attempt ≡ decimal part'.attempt = cc in
    let f : decimal part.from ≡ decimal part'.from = cc in
    let t : decimal part.to ≡ decimal part'.to = cc in
    let v : via_text via ≡ via_text via' = cc in
    let range = range_told part part' h.0 k.0 s a f t in
    let way = via_told via via' h.1 k.1 v in
    cc
event_told (Arrive part via) (Ignore part' via' have') h k e = absurd (true≢false (ap (first_is (codes "arrive")) e))
event_told (Arrive part via) (Won i' a') h k e = absurd (true≢false (ap (first_is (codes "arrive")) e))
event_told (Arrive part via) (Revoked i' a') h k e = absurd (true≢false (ap (first_is (codes "arrive")) e))
event_told (Arrive part via) Restart h k e = absurd (true≢false (ap (first_is (codes "arrive")) e))
event_told (Arrive part via) Finish h k e = absurd (true≢false (ap (first_is (codes "arrive")) e))
event_told (Ignore part via have) (Arrive part' via') h k e = absurd (true≢false (ap (first_is (codes "ignore")) e))
event_told (Ignore part via have) (Ignore part' via' have') h k e =
    let s : decimal part.split ≡ decimal part'.split = cc in
    let a : decimal part.attempt ≡ decimal part'.attempt = cc in
    let f : decimal part.from ≡ decimal part'.from = cc in
    let t : decimal part.to ≡ decimal part'.to = cc in
    let v : via_text via ≡ via_text via' = cc in
    let range = range_told part part' h.0 k.0 s a f t in
    let way = via_told via via' h.1 k.1 v in
    let n : decimal have ≡ decimal have' = cc in
    let number = number_told have have' h.2 k.2 n in
    cc
event_told (Ignore part via have) (Won i' a') h k e = absurd (true≢false (ap (first_is (codes "ignore")) e))
event_told (Ignore part via have) (Revoked i' a') h k e = absurd (true≢false (ap (first_is (codes "ignore")) e))
event_told (Ignore part via have) Restart h k e = absurd (true≢false (ap (first_is (codes "ignore")) e))
event_told (Ignore part via have) Finish h k e = absurd (true≢false (ap (first_is (codes "ignore")) e))
event_told (Won i a) (Arrive part' via') h k e = absurd (true≢false (ap (first_is (codes "won")) e))
event_told (Won i a) (Ignore part' via' have') h k e = absurd (true≢false (ap (first_is (codes "won")) e))
event_told (Won i a) (Won i' a') h k e =
    let first : decimal i ≡ decimal i' = cc in
    let second : decimal a ≡ decimal a' = cc in
    let split = number_told i i' h.0 k.0 first in
    let attempt = number_told a a' h.1 k.1 second in
    cc
event_told (Won i a) (Revoked i' a') h k e = absurd (true≢false (ap (first_is (codes "won")) e))
event_told (Won i a) Restart h k e = absurd (true≢false (ap (first_is (codes "won")) e))
event_told (Won i a) Finish h k e = absurd (true≢false (ap (first_is (codes "won")) e))
event_told (Revoked i a) (Arrive part' via') h k e = absurd (true≢false (ap (first_is (codes "revoked")) e))
event_told (Revoked i a) (Ignore part' via' have') h k e = absurd (true≢false (ap (first_is (codes "revoked")) e))
event_told (Revoked i a) (Won i' a') h k e = absurd (true≢false (ap (first_is (codes "revoked")) e))
event_told (Revoked i a) (Revoked i' a') h k e =
    let first : decimal i ≡ decimal i' = cc in
    let second : decimal a ≡ decimal a' = cc in
    let split = number_told i i' h.0 k.0 first in
    let attempt = number_told a a' h.1 k.1 second in
    cc
event_told (Revoked i a) Restart h k e = absurd (true≢false (ap (first_is (codes "revoked")) e))
event_told (Revoked i a) Finish h k e = absurd (true≢false (ap (first_is (codes "revoked")) e))
event_told Restart (Arrive part' via') h k e = absurd (true≢false (ap (first_is (codes "restart")) e))
event_told Restart (Ignore part' via' have') h k e = absurd (true≢false (ap (first_is (codes "restart")) e))
event_told Restart (Won i' a') h k e = absurd (true≢false (ap (first_is (codes "restart")) e))
event_told Restart (Revoked i' a') h k e = absurd (true≢false (ap (first_is (codes "restart")) e))
event_told Restart Restart h k e = refl
event_told Restart Finish h k e = absurd (true≢false (ap (first_is (codes "restart")) e))
event_told Finish (Arrive part' via') h k e = absurd (true≢false (ap (first_is (codes "finish")) e))
event_told Finish (Ignore part' via' have') h k e = absurd (true≢false (ap (first_is (codes "finish")) e))
event_told Finish (Won i' a') h k e = absurd (true≢false (ap (first_is (codes "finish")) e))
event_told Finish (Revoked i' a') h k e = absurd (true≢false (ap (first_is (codes "finish")) e))
event_told Finish Restart h k e = absurd (true≢false (ap (first_is (codes "finish")) e))
event_told Finish Finish h k e = refl

-- neither a reducer's first line nor the last line is an event's
pub no_event_reducer : (p : ℕ) (e : Event) → number_line (codes "reducer") p ≡ event_line e → ⊥
no_event_reducer p (Arrive part via) e = true≢false (ap (first_is (codes "reducer")) e)
no_event_reducer p (Ignore part via have) e = true≢false (ap (first_is (codes "reducer")) e)
no_event_reducer p (Won i a) e = true≢false (ap (first_is (codes "reducer")) e)
no_event_reducer p (Revoked i a) e = true≢false (ap (first_is (codes "reducer")) e)
no_event_reducer p Restart e = true≢false (ap (first_is (codes "reducer")) e)
no_event_reducer p Finish e = true≢false (ap (first_is (codes "reducer")) e)

pub no_event_last : (e : Event) → last_line ≡ event_line e → ⊥
no_event_last (Arrive part via) e = true≢false (ap (first_is (codes "end")) e)
no_event_last (Ignore part via have) e = true≢false (ap (first_is (codes "end")) e)
no_event_last (Won i a) e = true≢false (ap (first_is (codes "end")) e)
no_event_last (Revoked i a) e = true≢false (ap (first_is (codes "end")) e)
no_event_last Restart e = true≢false (ap (first_is (codes "end")) e)
no_event_last Finish e = true≢false (ap (first_is (codes "end")) e)
