-- A turn of a mapper of a list.
use Rattle.std.proofs.Common.{◌≡◌, ℕ, zero, suc, ◌&&◌, [], ◌∷◌, ◌+◌, ◌^◌, ◌≤◌, ◌<◌, ◌⊎◌, Bool, true, false, List, length, refl, sym, ap, ◌∙◌, subst, inl, inr, ⊎_elim, cond, arith, Some, slice_set, slice_index_or}
use Rattle.std.specs.List.{slice_get}
use Rattle.std.proofs.lemmas.List.{length-set, length-map, map-set}
use Rattle.std.proofs.lemmas.Option.{get_or_from_slice_get}
use Rattle.hop_machine.specs.declared.words.Turn.{Turn}
use Rattle.hop_machine.specs.declared.words.Turn.TheVariants as said
use Rattle.hop_machine.specs.declared.words.Who.TheVariants as whose
use Rattle.hop_machine.specs.step.Steps.{Deeds, Runs, Done, and_then}
use Rattle.hop_machine.specs.actors.MapperTurns.{Mapper, mapper_turn, open_turn, with_end, counted, is_ended}
use Rattle.hop_machine.specs.actors.ReducerTurns.{Reducer, Writer}
use Rattle.hop_machine.specs.home.Conditions.{HasMapper, HasAll}
use Rattle.hop_machine.specs.home.MapperHome.{has_failed}
use Rattle.hop_machine.specs.play.Play.{Actors, Mapping, Turned, Went, has_ended, unless_spent, all_true}
use Rattle.hop_machine.specs.run.AllHome.{Ready}
use Rattle.hop_machine.specs.settling.Settling.{AreOfRun, MapFell, PassFell, flag_at}
use Rattle.hop_machine.proofs.step.Programs.{Runs-parted}
use Rattle.hop_machine.proofs.step.Owners.{Runs-ends}
use Rattle.hop_machine.proofs.mapper.AtHome.{turn_counts}
use Rattle.hop_machine.proofs.home.OfRun.{mapper-of_run}
use Rattle.hop_machine.proofs.play.Going.{mapper_did, maps}
use Rattle.hop_machine.proofs.settling.Passes.{map-fell, pass-turn, get_set}
use Rattle.hop_settle.specs.Crews.{MayMapAt, Mapped, TurnsFrom, TurnsBelow, flags_of, actors_of, world_of}
use Rattle.hop_settle.proofs.Lists.{map-at}

-- # At home

pub may_map : (x : Actors) (d : Deeds) (w : ℕ) (m : Mapper) → Ready x d → HasAll d → w < length x.mappers → slice_get x.mappers w ≡ Some m → m.turns < 2 ^ 56 → MayMapAt w m d
may_map x d w m h ends l is few =
    let k = h.home.mapper w m is in
    let inside : w < d.setup.workers = let n = h.home.workers in omega (arith, l, n) in
    record { number = k.number; may = record { home = k.home; ends = subst (λ n. HasMapper n d) (sym k.number) (ends.mapper w inside); turns = few } }

pub are_of_run : (x : Actors) (d : Deeds) → Ready x d → AreOfRun x.mappers d.setup
are_of_run x d h = record { each = λ k m is. let z = h.home.mapper k m is in (mapper-of_run m d z.home, z.number) }

-- # Flags

-- whether the mapper at this place has ended
pub flag_is : (ms : List Mapper) (w : ℕ) (m : Mapper) → slice_get ms w ≡ Some m → slice_index_or (flags_of ms) w false ≡ m.ended
flag_is ms w m is = get_or_from_slice_get (flags_of ms) w m.ended false (map-at has_ended ms w m is)

ends_by : (t : Bool) (m : Mapper) → m.ended ≡ t → (e : Bool) (a b : Deeds) (y : Mapper × Turn) → Runs e (cond t (Done (counted m, said.Ended)) (and_then (open_turn m) (λ x. Done (with_end x)))) a y b → y.0.ended ≡ is_ended y.1
ends_by true m is e a b y h = ap (λ (z : Mapper × Turn). z.0.ended) h.0 ∙ is ∙ sym (ap (λ (z : Mapper × Turn). is_ended z.1) h.0)
ends_by false m is e a b y h =
    let k = Runs-parted e (open_turn m) (λ x. Done (with_end x)) a b y h in
    ap (λ (z : Mapper × Turn). z.0.ended) k.later.0 ∙ sym (ap (λ (z : Mapper × Turn). is_ended z.1) k.later.0)

-- a mapper has ended just where its last turn was answered so
pub ends_so : (e : Bool) (m : Mapper) (a b : Deeds) (y : Mapper × Turn) → Runs e (mapper_turn m) a y b → y.0.ended ≡ is_ended y.1
ends_so e m a b y h = ends_by m.ended m refl e a b y h

-- # A turn

module _ (e : Bool) (w : ℕ) (ms : List Mapper) (a : Deeds) (ns : List Mapper) (t : Turn) (b : Deeds) (z : Mapped e w ms a ns t b) where
  pub map_ends : b.ends ≡ a.ends
  map_ends = Runs-ends e (mapper_turn z.before) a b (z.after, t) z.runs

  pub map_count : length ns ≡ length ms
  map_count = ap length z.now ∙ length-set ms w z.after

  pub map_flags : flags_of ns ≡ slice_set (flags_of ms) w (is_ended t)
  map_flags = ap flags_of z.now ∙ map-set has_ended ms w z.after ∙ ap (slice_set (flags_of ms) w) (ends_so e z.before a b (z.after, t) z.runs)

  pub map_turned : (rs : List Reducer) (x : Writer) → Turned e (whose.Mapper w) (world_of ms rs x a) t (world_of ns rs x b)
  map_turned rs x =
      subst (λ (os : List Mapper). Turned e (whose.Mapper w) (world_of ms rs x a) t (world_of os rs x b)) (sym z.now)
      (mapper_did e w mapper_turn said.Idle (actors_of ms rs x) z.before a b (z.after, t) z.here z.runs)

  pub map_goes : w < length ms → flag_at (flags_of ms) w ≡ false → (rs : List Reducer) (x : Writer)
      → Went e (Mapping w (flags_of ms), world_of ms rs x a) (unless_spent t (Mapping (w + 1) (flags_of ns)), world_of ns rs x b)
  map_goes l still rs x =
      subst (λ (fl : List Bool). Went e (Mapping w (flags_of ms), world_of ms rs x a) (unless_spent t (Mapping (w + 1) fl), world_of ns rs x b)) (sym map_flags)
      (maps e w (flags_of ms) (world_of ms rs x a) (world_of ns rs x b) t l still (map_turned rs x))

  pub map_turns : (n : ℕ) → TurnsFrom w n ms → TurnsFrom (w + 1) n ns
  map_turns n h k m is =
      ⊎_elim (λ (s : (k ≡ w) × (z.after ≡ m)).
      let few = (h w z.before z.here).1 (omega arith) in
      let more = turn_counts e z.before a z.after t b z.runs in
      let same = ap (λ (m : Mapper). m.turns) s.1 in
      let at = s.0 in
      (omega (arith, few, more, same), λ l. absurd (omega (arith, l, at))))
      (λ (s : slice_get ms k ≡ Some m). let f = h k m s in (f.0, λ l. f.1 (omega (arith, l))))
      (get_set ms w k z.after m (ap (λ (l : List Mapper). slice_get l k) (sym z.now) ∙ is))

  pub map_fell : AreOfRun ms a.setup → flag_at (flags_of ms) w ≡ false
      → (t ≡ said.Stopped) ⊎ ((os : List Mapper) (c : Deeds) → w < length os → PassFell w os (flags_of os) c ms (flags_of ms) a → PassFell (w + 1) os (flags_of os) c ns (flags_of ns) b)
  map_fell ready still =
      ⊎_elim (λ (s : t ≡ said.Stopped). inl s)
      (λ (k : MapFell w ms (flags_of ms) a (slice_set ms w z.after) (slice_set (flags_of ms) w (is_ended t)) b).
      inr (λ os c l p.
      let m : MapFell w ms (flags_of ms) a ns (slice_set (flags_of ms) w (is_ended t)) b = subst (λ (l : List Mapper). MapFell w ms (flags_of ms) a l (slice_set (flags_of ms) w (is_ended t)) b) (sym z.now) k in
      subst (λ (fl : List Bool). PassFell (w + 1) os (flags_of os) c ns fl b) (sym map_flags) (pass-turn w (is_ended t) os ms ns (flags_of os) (flags_of ms) c a b l p m)))
      (map-fell e w ms (flags_of ms) z.before a b (z.after, t) z.here still (length-map ms has_ended) ready z.runs)

-- # A pass

pub turns_begin : (n : ℕ) (ms : List Mapper) → TurnsBelow n ms → TurnsFrom 0 n ms
turns_begin n ms h k m is = let l = h k m is in (omega (arith, l), λ z. l)

pub turns_end : (w n : ℕ) (ms : List Mapper) → TurnsFrom w n ms → TurnsBelow (n + 1) ms
turns_end w n ms h k m is = (h k m is).0

-- a turn after which the mapper goes on did not stop
pub went_not_stopped : (t : Turn) (P : Type 0) → has_failed t ≡ false → (t ≡ said.Stopped) ⊎ P → P
went_not_stopped t P on (inr p) = p
went_not_stopped t P on (inl s) = let n : true ≡ false = sym (ap has_failed s) ∙ on in cc

-- # Whether all have ended

pub all_so : (bs : List Bool) → ((k : ℕ) → k < length bs → flag_at bs k ≡ true) → all_true bs ≡ true
all_so [] h = refl
all_so (b ∷ bs) h = (λ i. h 0 (omega arith) i && all_true bs) ∙ all_so bs (λ k l. h (suc k) (omega (arith, l)))

and_false : (b : Bool) → (b && false) ≡ false
and_false true = refl
and_false false = refl

pub one_open : (bs : List Bool) (k : ℕ) → k < length bs → flag_at bs k ≡ false → all_true bs ≡ false
one_open [] k l h = absurd (omega arith)
one_open (b ∷ bs) zero l h = (λ i. h i && all_true bs)
one_open (b ∷ bs) (suc k) l h = let r = one_open bs k (omega arith) h in (λ i. b && r i) ∙ and_false b

-- a pass leaves less to do, the first one by its mark
pub falls : (first : Bool) (x y : ℕ) → x ≤ y → (first ≡ false → x < y) → x + 0 < y + cond first 1 0
falls true x y le less = omega (arith, le)
falls false x y le less = let l = less refl in omega (arith, l)
