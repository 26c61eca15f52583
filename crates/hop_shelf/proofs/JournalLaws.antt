-- One event more.
use Rattle.std.proofs.Common.{◌≡◌, ℕ, suc, ◌+◌, ◌<◌, ◌≤◌, ◌⊎◌, inl, inr, Bool, true, false, cond, if◌then◌else◌, Some, List, [], ◌∷◌, length, max, refl, sym, ap, ◌∙◌, arith, ◌==◌, ◌&&◌}
use Rattle.std.specs.Prelude.{nat_lt, nat_le}
use Rattle.std.specs.List.{list_any}
use Rattle.std.proofs.lemmas.Bool.{true≢false}
use Rattle.std.proofs.lemmas.Bool.Decides.{nat_tests}
use Rattle.hop_event.specs.declared.event.Event.{Event}
use Rattle.hop_event.specs.declared.event.Event.TheVariants.{Arrive, Ignore, Won, Revoked, Restart, Finish}
use Rattle.hop_event.specs.History.{arrivals}
use Rattle.hop_event.specs.Legal.{restart_due}
use Rattle.hop_event.specs.Coverage.{top_progress, progress_before, progress, first_reached, cut_at}
use Rattle.hop_event.proofs.Cuts.{cut_now}
use Rattle.std.specs.Prelude.{All}
use Rattle.std.proofs.lemmas.List.Elements.{All-weaker, filter_passes}
use Rattle.hop_cover.specs.Table.{Table, StandsFor}
use Rattle.hop_shelf.specs.Journal.{is_arrival, IsRecorded, marks_between, JournalValue, AddsEvent}

arrivals-cons : (e : Event) (h : List Event) → arrivals (e ∷ h) ≡ (if is_arrival e then arrivals h + 1 else arrivals h)
arrivals-cons (Arrive part via) h = refl
arrivals-cons (Ignore part via have) h = refl
arrivals-cons (Won j b) h = refl
arrivals-cons (Revoked j b) h = refl
arrivals-cons Restart h = refl
arrivals-cons Finish h = refl

restart_due-cons : (restarts : List ℕ) (e : Event) (h : List Event) → restart_due restarts (e ∷ h) ≡ (is_arrival e && list_any (λ k. k == arrivals (e ∷ h)) restarts)
restart_due-cons restarts (Arrive part via) h = refl
restart_due-cons restarts (Ignore part via have) h = refl
restart_due-cons restarts (Won j b) h = refl
restart_due-cons restarts (Revoked j b) h = refl
restart_due-cons restarts Restart h = refl
restart_due-cons restarts Finish h = refl

few_more : (b : Bool) (n m : ℕ) → n ≤ m → (if b then n + 1 else n) ≤ suc m
few_more true n m h = omega arith
few_more false n m h = omega arith

pub recorded_more : (events : List Event) (old : Table) (restarts : List ℕ) (count : ℕ) (restart : Bool) (before top : ℕ) → IsRecorded events old restarts count restart before top
    → (e : Event) (new : Table) (now : ℕ) → (new.lens ≡ old.lens) × (new.tentative ≡ old.tentative) → ((h : List Event) → StandsFor old h → StandsFor new (e ∷ h))
    → ((h : List Event) → StandsFor new h → now ≡ progress new.tentative new.lens h)
    → IsRecorded (e ∷ events) new restarts (if is_arrival e then count + 1 else count) (is_arrival e && list_any (λ k. k == (if is_arrival e then count + 1 else count)) restarts) top (max now top)
recorded_more events old restarts count restart before top r e new now same stands value =
    let counts : (if is_arrival e then count + 1 else count) ≡ arrivals (e ∷ events) = ap (λ n. if is_arrival e then n + 1 else n) r.counted ∙ sym (arrivals-cons e events) in
    let covers = stands events r.covers in
    let top_is : top ≡ top_progress new.tentative new.lens events = r.top_is ∙ ap (λ t. top_progress t old.lens events) (sym same.1) ∙ ap (λ l. top_progress new.tentative l events) (sym same.0) in
    record {
      covers = covers;
      counted = counts;
      few = rw (arrivals-cons e events) (few_more (is_arrival e) (arrivals events) (length events) r.few);
      restart_is = ap (λ n. is_arrival e && list_any (λ k. k == n) restarts) counts ∙ sym (restart_due-cons restarts e events);
      top_is = ap (λ n. max n top) (value (e ∷ events) covers) ∙ ap (λ n. max (progress new.tentative new.lens (e ∷ events)) n) top_is;
      cut = inr top_is;
    }

nothing_between : (n : ℕ) (marks : List ℕ) → marks_between n n marks ≡ []
nothing_between n [] = refl
nothing_between n (m ∷ marks) = let f : (nat_lt n m && nat_le m n) ≡ false = grind (arith, nat_tests) in ap (λ (b : Bool). cond b (m ∷ marks_between n n marks) (marks_between n n marks)) f ∙ nothing_between n marks

pub handed_out : (n : ℕ) (marks : List ℕ) → marks_between n n marks ≡ []
handed_out = nothing_between

pub due_more : (events : List Event) (old : Table) (restarts : List ℕ) (count : ℕ) (restart : Bool) (before top : ℕ) → IsRecorded events old restarts count restart before top
    → (e : Event) (new : Table) (now : ℕ) → (new.lens ≡ old.lens) × (new.tentative ≡ old.tentative) → ((h : List Event) → StandsFor old h → StandsFor new (e ∷ h))
    → ((h : List Event) → StandsFor new h → now ≡ progress new.tentative new.lens h)
    → (marks : List ℕ) → marks_between top (max now top) marks ≡ first_reached new.tentative new.lens marks (e ∷ events)
due_more events old restarts count restart before top r e new now same stands value marks =
    let top_is : top ≡ top_progress new.tentative new.lens events = r.top_is ∙ ap (λ t. top_progress t old.lens events) (sym same.1) ∙ ap (λ l. top_progress new.tentative l events) (sym same.0) in
    let next : max now top ≡ top_progress new.tentative new.lens (e ∷ events) = ap (λ n. max n top) (value (e ∷ events) (stands events r.covers)) ∙ ap (λ n. max (progress new.tentative new.lens (e ∷ events)) n) top_is in
    ap (λ n. marks_between n (max now top) marks) top_is ∙ ap (λ n. marks_between (top_progress new.tentative new.lens events) n marks) next

-- what is seen of the journal afterwards
pub adds_event : (old mid : JournalValue) (e : Event) (new : JournalValue) → mid ≡ old → new.events ≡ e ∷ mid.events → new.lens ≡ mid.lens → new.tentative ≡ mid.tentative → new.restarts ≡ mid.restarts → new.marks ≡ mid.marks → new.due ≡ first_reached new.tentative new.lens new.marks (e ∷ mid.events) → AddsEvent old e new
adds_event old mid e new same a b c d f g = record {
  events = a ∙ ap (λ (v : JournalValue). e ∷ v.events) same;
  lens = b ∙ ap (λ (v : JournalValue). v.lens) same;
  tentative = c ∙ ap (λ (v : JournalValue). v.tentative) same;
  restarts = d ∙ ap (λ (v : JournalValue). v.restarts) same;
  marks = f ∙ ap (λ (v : JournalValue). v.marks) same;
  due = g ∙ ap (first_reached new.tentative new.lens new.marks) (sym a);
}

due_by : (tentative : Bool) (lens : List ℕ) (events : List Event) (before top m : ℕ) → top ≡ top_progress tentative lens events → (before ≡ top) ⊎ (before ≡ progress_before tentative lens events) → (nat_lt before m && nat_le m top) ≡ true → cut_at tentative lens m events ≡ Some events
due_by tentative lens events before top m t (inl e) test = absurd (let f : (nat_lt before m && nat_le m top) ≡ false = grind (arith, nat_tests) in true≢false (sym test ∙ f))
due_by tentative lens events before top m t (inr e) test =
    let low : before < m = grind (arith, nat_tests) in
    let high : m ≤ top = grind (arith, nat_tests) in
    cut_now tentative lens m events (omega (arith, e, low)) (omega (arith, t, high))

-- the marks that are due have their cuts here
pub due_first : (events : List Event) (table : Table) (restarts : List ℕ) (count : ℕ) (restart : Bool) (before top : ℕ) → IsRecorded events table restarts count restart before top → (marks : List ℕ) → All (λ m. cut_at table.tentative table.lens m events ≡ Some events) (marks_between before top marks)
due_first events table restarts count restart before top r marks =
    All-weaker (λ m. (nat_lt before m && nat_le m top) ≡ true) (λ m. cut_at table.tentative table.lens m events ≡ Some events) (λ m test. due_by table.tentative table.lens events before top m r.top_is r.cut test) (marks_between before top marks) (filter_passes (λ m. nat_lt before m && nat_le m top) marks)
