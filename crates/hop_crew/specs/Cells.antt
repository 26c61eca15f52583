-- One lane among many, before and after a call of one of its ends.
use Rattle.std.specs.Prelude.{◌≡◌, ℕ, ◌-◌, Bool, true, false, List, [], ◌∷◌, ◌++◌, map, length, drop, Option, Some, None, cond, nat_lt}
use Rattle.std.proofs.Common.{refl, sym, ap, ◌∙◌, subst, arith, append_assoc}
use Rattle.std.proofs.lemmas.List.{map-append, length-map, length-append, append_cancel_left, append-nil}
use Rattle.std.proofs.Math.Seq.{drop-append_seam}
use Rattle.std.proofs.Math.Nat.{add-sub_cancel_left}
use Rattle.hop_machine.specs.step.Steps.{Sent, Taken, sending, taking, Begins, TellsFull, TellsEmpty, first, rest}
use Rattle.hop_inner.specs.Lines.{Sends, Takes, option_said}
use Rattle.hop_lane.specs.PlainLanes.{Lane, line_of}
use Rattle.hop_crew.specs.PlainWorlds.{sent_at, taken_at}

-- # A function that changed at one place

module _ {I A : Type 0} (here : I → Bool) (i0 : I) (L L' : I → Option A) (x y : A) (at : L i0 ≡ Some x) (at' : L' i0 ≡ Some y)
    (found : (i : I) → here i ≡ true → i ≡ i0) (else : (i : I) → here i ≡ false → L' i ≡ L i) where
  changed_by : {B : Type 0} (g : Option A → B) (b : B) → g (Some y) ≡ b → (i : I) (t : Bool) → here i ≡ t → g (L' i) ≡ cond t b (g (L i))
  changed_by g b e i true h = ap (λ j. g (L' j)) (found i h) ∙ ap g at' ∙ e
  changed_by g b e i false h = ap g (else i h)

  pub changed : {B : Type 0} (g : Option A → B) (b : B) → g (Some y) ≡ b → (i : I) → g (L' i) ≡ cond (here i) b (g (L i))
  changed g b e i = changed_by g b e i (here i) refl

  kept_by : (P : Option A → Option A → Type 0) → P (Some x) (Some y) → ((r : Option A) → P r r) → (i : I) (t : Bool) → here i ≡ t → P (L i) (L' i)
  kept_by P one same i true h = subst (λ (r : Option A × Option A). P r.0 r.1) (λ j. (sym (ap L (found i h) ∙ at) j, sym (ap L' (found i h) ∙ at') j)) one
  kept_by P one same i false h = subst (P (L i)) (sym (else i h)) (same (L i))

  -- what relates each place to itself, and this place to what it is now
  pub all_places : (P : Option A → Option A → Type 0) → P (Some x) (Some y) → ((r : Option A) → P r r) → (i : I) → P (L i) (L' i)
  all_places P one same i = kept_by P one same i (here i) refl

  pub unchanged : {B : Type 0} (g : Option A → B) → g (Some y) ≡ g (Some x) → (i : I) → g (L' i) ≡ g (L i)
  unchanged g e = all_places (λ r q. g q ≡ g r) e (λ r. refl)

-- # A lane

pub begins_same : {A : Type 0} (xs ys : List A) → ys ≡ xs → Begins xs ys
begins_same xs ys e = ([], e ∙ sym (append-nil xs))

module _ {T M : Type 0} (f : T → M) where
  -- what lies in it, by what its ends did
  abbrev pub lies : Option (Lane T) → List M
  lies r = drop (length (taken_at f r).taken) (sent_at f r).sent

  pub lies_held : (l : Lane T) → lies (Some l) ≡ map f l.held
  lies_held l = (λ i. drop (length (map f l.taken)) (map-append f l.taken l.held i)) ∙ drop-append_seam (map f l.taken) (map f l.held)

  module _ (cap : ℕ) (m : T) (x y : Lane T) where
    taken_same : (ok : Bool) → Sends true cap m ok (line_of x) (line_of y) → y.taken ≡ x.taken
    taken_same ok h = ap (λ (t : Taken T). t.taken) h.into

    pub sends_into : (ok : Bool) → Sends true cap m ok (line_of x) (line_of y) → taken_at f (Some y) ≡ taken_at f (Some x)
    sends_into ok h = λ i. record { taken = map f (h.into i).taken; nones = (h.into i).nones }

    pub sends_out : (ok : Bool) → Sends true cap m ok (line_of x) (line_of y) → sent_at f (Some y) ≡ sending (f m) ok (sent_at f (Some x))
    sends_out true h = (λ i. record { sent = map f (h.out i).sent; fulls = (h.out i).fulls }) ∙ (λ i. record { sent = map-append f (x.taken ++ x.held) (m ∷ []) i; fulls = x.fulls })
    sends_out false h = λ i. record { sent = map f (h.out i).sent; fulls = (h.out i).fulls }

    held_more : Sends true cap m true (line_of x) (line_of y) → y.held ≡ x.held ++ m ∷ []
    held_more h = append_cancel_left x.taken y.held (x.held ++ m ∷ [])
        (ap (λ t. t ++ y.held) (sym (taken_same true h)) ∙ ap (λ (s : Sent T). s.sent) h.out ∙ append_assoc x.taken x.held (m ∷ []))

    held_same : Sends true cap m false (line_of x) (line_of y) → y.held ≡ x.held
    held_same h = append_cancel_left x.taken y.held x.held (ap (λ t. t ++ y.held) (sym (taken_same false h)) ∙ ap (λ (s : Sent T). s.sent) h.out)

    pub lies_more : Sends true cap m true (line_of x) (line_of y) → lies (Some y) ≡ lies (Some x) ++ f m ∷ []
    lies_more h = lies_held y ∙ ap (map f) (held_more h) ∙ map-append f x.held (m ∷ []) ∙ ap (λ l. l ++ f m ∷ []) (sym (lies_held x))

    pub lies_same : Sends true cap m false (line_of x) (line_of y) → lies (Some y) ≡ lies (Some x)
    lies_same h = lies_held y ∙ ap (map f) (held_same h) ∙ sym (lies_held x)

    pub sends_found : (ok : Bool) → Sends true cap m ok (line_of x) (line_of y) → ok ≡ nat_lt (length (lies (Some x))) cap
    sends_found ok h =
        let n : length (lies (Some x)) ≡ length x.held = ap length (lies_held x) ∙ length-map x.held f in
        let k : length (x.taken ++ x.held) - length x.taken ≡ length x.held = ap (λ n. n - length x.taken) (length-append x.taken x.held) ∙ add-sub_cancel_left (length x.taken) (length x.held) in
        h.finds refl ∙ ap (λ n. nat_lt n cap) (k ∙ sym n)

    pub sends_tells : (ok : Bool) → Sends true cap m ok (line_of x) (line_of y) → TellsFull cap ok (sent_at f (Some x)).sent (taken_at f (Some x)).taken
    sends_tells true h = tt
    sends_tells false h = let a = length-map (x.taken ++ x.held) f in let b = length-map x.taken f in let t = h.tells in omega (arith, a, b, t)

    pub sends_begins : (ok : Bool) → Sends true cap m ok (line_of x) (line_of y) → Begins (sent_at f (Some x)).sent (sent_at f (Some y)).sent
    sends_begins true h = (f m ∷ [], ap (λ (s : Sent M). s.sent) (sends_out true h))
    sends_begins false h = begins_same (sent_at f (Some x)).sent (sent_at f (Some y)).sent (ap (λ (s : Sent M). s.sent) (sends_out false h))

  module _ (x y : Lane T) where
    pub takes_out : (o : Option T) → Takes true o (line_of x) (line_of y) → sent_at f (Some y) ≡ sent_at f (Some x)
    takes_out o h = λ i. record { sent = map f (h.out i).sent; fulls = (h.out i).fulls }

    pub takes_into : (o : Option T) → Takes true o (line_of x) (line_of y) → taken_at f (Some y) ≡ taking (option_said f o) (taken_at f (Some x))
    takes_into None h = λ i. record { taken = map f (h.into i).taken; nones = (h.into i).nones }
    takes_into (Some m) h = (λ i. record { taken = map f (h.into i).taken; nones = (h.into i).nones }) ∙ (λ i. record { taken = map-append f x.taken (m ∷ []) i; nones = x.nones })

    -- it held what was taken, and then what it holds
    held_one : (m : T) → Takes true (Some m) (line_of x) (line_of y) → x.held ≡ m ∷ y.held
    held_one m h = append_cancel_left x.taken x.held (m ∷ y.held)
        (sym (ap (λ (s : Sent T). s.sent) h.out) ∙ ap (λ (t : Taken T). t.taken ++ y.held) h.into ∙ append_assoc x.taken (m ∷ []) y.held)

    held_none : Takes true None (line_of x) (line_of y) → (x.held ≡ []) × (y.held ≡ [])
    held_none h =
        let a : x.taken ++ [] ≡ y.taken ++ y.held = append-nil x.taken ∙ h.tells in
        let same : y.taken ≡ x.taken = ap (λ (t : Taken T). t.taken) h.into in
        let b : [] ≡ y.held = append_cancel_left x.taken [] y.held (a ∙ ap (λ t. t ++ y.held) same) in
        let c : y.held ≡ x.held = append_cancel_left x.taken y.held x.held (ap (λ t. t ++ y.held) (sym same) ∙ ap (λ (s : Sent T). s.sent) h.out) in
        (sym c ∙ sym b, sym b)

    pub takes_found : (o : Option T) → Takes true o (line_of x) (line_of y) → option_said f o ≡ first (lies (Some x))
    takes_found None h = sym (ap first (lies_held x ∙ ap (map f) (held_none h).0))
    takes_found (Some m) h = sym (ap first (lies_held x ∙ ap (map f) (held_one m h)))

    pub takes_rest : (o : Option T) → Takes true o (line_of x) (line_of y) → lies (Some y) ≡ rest (lies (Some x))
    takes_rest None h = lies_held y ∙ ap (map f) (held_none h).1 ∙ sym (ap rest (lies_held x ∙ ap (map f) (held_none h).0))
    takes_rest (Some m) h = lies_held y ∙ sym (ap rest (lies_held x ∙ ap (map f) (held_one m h)))

    pub takes_tells : (o : Option T) → Takes true o (line_of x) (line_of y) → TellsEmpty (option_said f o) (taken_at f (Some x)).taken (sent_at f (Some y)).sent
    takes_tells None h = ap (map f) h.tells
    takes_tells (Some m) h = (map f h.tells.0, ap (map f) h.tells.1 ∙ map-append f (x.taken ++ m ∷ []) h.tells.0 ∙ ap (λ l. l ++ map f h.tells.0) (map-append f x.taken (m ∷ [])))

    pub takes_begins : (o : Option T) → Takes true o (line_of x) (line_of y) → Begins (taken_at f (Some x)).taken (taken_at f (Some y)).taken
    takes_begins None h = begins_same (taken_at f (Some x)).taken (taken_at f (Some y)).taken (ap (λ (t : Taken M). t.taken) (takes_into None h))
    takes_begins (Some m) h = (f m ∷ [], ap (λ (t : Taken M). t.taken) (takes_into (Some m) h))
