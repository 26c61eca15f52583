-- What a call at the end of a lock does to the deeds.
use Rattle.std.proofs.Common.{◌≡◌, ℕ, ◌==◌, Bool, true, false, cond, List, [], ◌∷◌, refl, sym, ap, ◌∙◌, subst}
use Rattle.std.proofs.lemmas.List.{append-nil}
use Rattle.std.proofs.lemmas.Bool.{eq-eqb, eqb-true}
use Rattle.hop_event.specs.declared.event.Event.{Event}
use Rattle.hop_machine.specs.step.Steps.{Deeds, Kept, Value, Told, Step, Found, Steps, Grows, Begins, Tells, TellsValue, Record, GiveBack, Hold, at1, shown, finds, went, is_at_board, after, becomes}
use Rattle.hop_inner.specs.Locks.{Lock, given_back, with_kept, RecordsOne}

begins_same : {A : Type 0} (xs : List A) → Begins xs xs
begins_same xs = ([], sym (append-nil xs))

pub grows_same : (a : Told) → Grows a a
grows_same a = record {
  taken = λ w p. begins_same (a.taken w p);
  sent = λ w p. begins_same (a.sent w p);
  cut_taken = λ p. begins_same (a.cut_taken p);
  cut_sent = λ p. begins_same (a.cut_sent p);
  knows = λ who. record { won = λ i n e. e; gone = λ i n e. e };
}

cond_ap : {A B : Type 0} (f : A → B) (b : Bool) (x y : A) → f (cond b x y) ≡ cond b (f x) (f y)
cond_ap f true x y = refl
cond_ap f false x y = refl

cond_twice : {A : Type 0} (b : Bool) (x y z : A) → cond b x (cond b y z) ≡ cond b x z
cond_twice true x y z = refl
cond_twice false x y z = refl

cond_same : {A : Type 0} (b : Bool) (x y : A) → x ≡ y → cond b x y ≡ y
cond_same true x y e = e
cond_same false x y e = refl

module _ {A B : Type 0} where
  pub at1-ap : (f : A → B) (g : ℕ → A) (p : ℕ) (x : A) → (λ q. f (at1 g p x q)) ≡ at1 (λ q. f (g q)) p (f x)
  at1-ap f g p x = λ i q. cond_ap f (q == p) x (g q) i

module _ {A : Type 0} where
  pub at1-here : (g : ℕ → A) (p : ℕ) (x : A) → at1 g p x p ≡ x
  at1-here g p x = λ i. cond (eq-eqb p p refl i) x (g p)

  at1-is : (g : ℕ → A) (p : ℕ) (x : A) → x ≡ g p → (b : Bool) (q : ℕ) → (b ≡ true → q ≡ p) → cond b x (g q) ≡ g q
  at1-is g p x e true q h = e ∙ ap g (sym (h refl))
  at1-is g p x e false q h = refl

  pub at1-same : (g : ℕ → A) (p : ℕ) (x : A) → x ≡ g p → at1 g p x ≡ g
  at1-same g p x e = λ i q. at1-is g p x e (q == p) q (eqb-true q p) i

  pub at1-twice : (g : ℕ → A) (p : ℕ) (x y : A) → at1 (at1 g p x) p y ≡ at1 g p y
  at1-twice g p x y = λ i q. cond_twice (q == p) y x (g q) i

-- what lies under each lock
abbrev pub values : (ℕ → Kept) → ℕ → Value
values f q = record { events = (f q).events; due = (f q).due }

module _ (exact : Bool) (p : ℕ) (a : Deeds) where
  values_of : (k : Kept) → values (at1 a.did.keeps p k) ≡ at1 (values a.did.keeps) p (record { events = k.events; due = k.due })
  values_of k = at1-ap (λ (k : Kept). record { events = k.events; due = k.due }) a.did.keeps p k

  pub same_values : (k : Kept) → k.events ≡ (a.did.keeps p).events → k.due ≡ (a.did.keeps p).due → values (at1 a.did.keeps p k) ≡ values a.did.keeps
  same_values k e f = values_of k ∙ at1-same (values a.did.keeps) p (record { events = k.events; due = k.due }) (λ i. record { events = e i; due = f i })

  module _ (s : Step) (o : Found s) (k : Kept) where
    -- a step at the recorder's end of a lock
    pub at_keep : is_at_board s ≡ false → after s o a.did ≡ record a.did { keeps = at1 a.did.keeps p k } → Tells s o a (with_kept p k a)
        → (exact ≡ true → went s o ≡ true → (o ≡ finds s (shown a)) × (shown (with_kept p k a) ≡ becomes s (shown a)))
        → (b : Deeds) → b ≡ with_kept p k a → Steps exact s o a b
    at_keep calm did tells finds b is = subst (λ (d : Deeds). Steps exact s o a d) (sym is) record {
      setup = refl;
      ends = refl;
      did = sym did;
      grows = grows_same a.told;
      right = λ who h. h;
      calm = λ _. refl;
      tells = tells;
      finds = finds;
    }

  pub steps_record : (e : Event) → Steps exact (Record p e) tt a (with_kept p (record (a.did.keeps p) { events = e ∷ (a.did.keeps p).events }) a)
  steps_record e = let k : Kept = record (a.did.keeps p) { events = e ∷ (a.did.keeps p).events } in
      at_keep (Record p e) tt k refl refl tt (λ ex w. (refl, λ i. record (shown a) { histories = values_of k i })) (with_kept p k a) refl

  -- the value is given back as it was, but for the marks that are due
  pub steps_give : (due : List ℕ) (b : Deeds) → b ≡ with_kept p (record (a.did.keeps p) { due = due; held = false }) a → Steps exact (GiveBack p due) tt a b
  steps_give due b is = let k : Kept = record (a.did.keeps p) { due = due; held = false } in
      at_keep (GiveBack p due) tt k refl refl tt (λ ex w. (refl, λ i. record (shown a) { histories = values_of k i })) b is

  pub steps_hold : (v : Value) → TellsValue v (a.did.keeps p) → (b : Deeds) → b ≡ with_kept p (record (a.did.keeps p) { held = true }) a → Steps exact (Hold p) v a b
  steps_hold v tells b is = let k : Kept = record (a.did.keeps p) { held = true } in
      at_keep (Hold p) v k refl refl tells (λ ex w. (λ i. record { events = tells.events i; due = tells.due i }, λ i. record (shown a) { histories = same_values k refl refl i })) b is

-- one event more, and then it is given back
pub records_one : (exact : Bool) (p : ℕ) (e : Event) (x y : Lock) (a b : Deeds) (v : Value) → x.kept ≡ a.did.keeps p → v.events ≡ e ∷ (a.did.keeps p).events
    → b ≡ with_kept p y.kept a → y ≡ given_back v x → RecordsOne exact p e v.due a b
records_one exact p e x y a b v shows more is gives =
    let k : Kept = record (a.did.keeps p) { events = e ∷ (a.did.keeps p).events } in
    let mid : Deeds = with_kept p k a in
    let now : y.kept ≡ record k { due = v.due; held = false } = ap (λ (l : Lock). l.kept) gives ∙ (λ i. record (shows i) { events = more i; due = v.due; held = false }) in
    let here : mid.did.keeps p ≡ k = at1-here a.did.keeps p k in
    let there : record (mid.did.keeps p) { due = v.due; held = false } ≡ y.kept = (λ i. record (here i) { due = v.due; held = false }) ∙ sym now in
    let twice : at1 mid.did.keeps p (record (mid.did.keeps p) { due = v.due; held = false }) ≡ at1 a.did.keeps p y.kept = (λ i. at1 mid.did.keeps p (there i)) ∙ at1-twice a.did.keeps p k y.kept in
    record {
      between = mid;
      records = steps_record exact p a e;
      gives = steps_give exact p mid v.due b (is ∙ (λ i. record a { did = record a.did { keeps = sym twice i } }));
    }
