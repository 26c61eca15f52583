-- A turn of an actor that stands in a list of the code.
use Rattle.std.proofs.Common.{◌≡◌, ℕ, ◌<◌, Bool, false, List, length, map, sym, ap, ◌∙◌, subst, ⊎_elim, Some, slice_set, get_or, slice_get}
use Rattle.std.proofs.lemmas.List.{map-set}
use Rattle.std.proofs.lemmas.Option.{slice_get-get_or}
use Rattle.std.proofs.Math.Seq.{map-set_same}
use Rattle.hop_base.specs.Meaning.{Meaning}
use Rattle.hop_base.specs.Run.{ScriptLines, RunSettings}
use Rattle.hop_machine.specs.declared.words.Turn.{Turn as Said}
use Rattle.hop_machine.specs.step.Steps.{Deeds, Ends, Runs}
use Rattle.hop_machine.specs.actors.MapperTurns.{Mapper, mapper_turn}
use Rattle.hop_machine.specs.actors.ReducerTurns.{Reducer, reducer_turn}
use Rattle.hop_machine.proofs.step.Owners.{Runs-ends}
use Rattle.hop_machine.proofs.settling.Passes.{get_set}
use Rattle.hop_actors.specs.declared.turn.Turn.{Turn}
use Rattle.hop_actors.specs.declared.turn.Turn.TheVariants as answer
use Rattle.hop_actors.specs.Acting.{Acting, Maps, Reduces, Turned}
use Rattle.hop_actors.specs.Counting.{Counts, StoreCause, TurnCause}
use Rattle.hop_settle.specs.Crews.{AreWell, Mapped, Reduced}
use Rattle.hop_settle.specs.Stops.{MapCounts}
use Rattle.hop_settle.proofs.Lists.{map-at}

map_runs : (e : Bool) (x y : Acting) (m n : Mapper) (a b : Deeds) (t : Said) → x ≡ Maps m → y ≡ Maps n → Turned e x a y t b → Runs e (mapper_turn m) a (n, t) b
map_runs e x y m n a b t p q h = subst (λ (u : Acting × Acting). Turned e u.0 a u.1 t b) (λ i. (p i, q i)) h

reduce_runs : (e : Bool) (x y : Acting) (m n : Reducer) (a b : Deeds) (t : Said) → x ≡ Reduces m → y ≡ Reduces n → Turned e x a y t b → Runs e (reducer_turn m) a (n, t) b
reduce_runs e x y m n a b t p q h = subst (λ (u : Acting × Acting). Turned e u.0 a u.1 t b) (λ i. (p i, q i)) h

module _ {M : Type 0} (xs : List M) (w : ℕ) (x y d : M) (l : w < length xs) (at : x ≡ get_or xs w d) where
  pub stands_at : slice_get xs w ≡ Some x
  stands_at = slice_get-get_or xs w d l ∙ ap Some (sym at)

  pub mapped_at : (f : M → Mapper) (acting : M → Acting) (is : (m : M) → acting m ≡ Maps (f m)) (e : Bool) (a b : Deeds) (t : Said) → Turned e (acting x) a (acting y) t b → Mapped e w (map f xs) a (map f (slice_set xs w y)) t b
  mapped_at f acting is e a b t h = record {
    before = f x;
    here = map-at f xs w x stands_at;
    after = f y;
    now = map-set f xs w y;
    runs = map_runs e (acting x) (acting y) (f x) (f y) a b t (is x) (is y) h;
  }

  pub reduced_at : (f : M → Reducer) (acting : M → Acting) (is : (m : M) → acting m ≡ Reduces (f m)) (e : Bool) (a b : Deeds) (t : Said) → Turned e (acting x) a (acting y) t b → Reduced e w (map f xs) a (map f (slice_set xs w y)) t b
  reduced_at f acting is e a b t h = record {
    before = f x;
    here = map-at f xs w x stands_at;
    after = f y;
    now = map-set f xs w y;
    runs = reduce_runs e (acting x) (acting y) (f x) (f y) a b t (is x) (is y) h;
  }

  pub well_at : (failed : M → Bool) (fits : M → List ℕ → Type 0) (a b : List ℕ) → b ≡ a → AreWell failed fits a xs → failed y ≡ false → fits y b → AreWell failed fits b (slice_set xs w y)
  well_at failed fits a b same old off fit k m is =
      ⊎_elim (λ (s : (k ≡ w) × (y ≡ m)). subst (λ (n : M). (failed n ≡ false) × fits n b) s.1 (off, fit))
      (λ (s : slice_get xs k ≡ Some m). let o = old k m s in (o.0, subst (fits m) (sym same) o.1))
      (get_set xs w k y m is)

  pub counted_at : (job : Meaning) (records : List (List ℕ)) (script : ScriptLines) (settings : RunSettings) (counts : M → Counts) (m : Mapper) → m.number ≡ w → (t : Turn) → TurnCause job records script settings (Maps m) (counts x) (counts y) t → MapCounts job records script settings (map counts xs) (map counts (slice_set xs w y)) t
  counted_at job records script settings counts m number answer.Worked h = map-set_same counts xs w y d (h ∙ ap counts at)
  counted_at job records script settings counts m number answer.Idle h = map-set_same counts xs w y d (h ∙ ap counts at)
  counted_at job records script settings counts m number answer.Ended h = map-set_same counts xs w y d (h ∙ ap counts at)
  counted_at job records script settings counts m number (answer.Failed f) h = record {
    worker = w;
    before = counts x;
    here = map-at counts xs w x stands_at;
    after = counts y;
    cause = subst (λ n. StoreCause job records script settings n (counts x) (counts y) f) number h;
    now = map-set counts xs w y;
  }

-- the board of the ends is the one that it was
pub same_board : (e : Bool) (m : Mapper) (a b : Deeds) (y : Mapper × Said) → Runs e (mapper_turn m) a y b → b.ends.board ≡ a.ends.board
same_board e m a b y h = ap (λ (k : Ends). k.board) (Runs-ends e (mapper_turn m) a b y h)

pub cause_is : (job : Meaning) (records : List (List ℕ)) (script : ScriptLines) (settings : RunSettings) (x : Acting) (m : Mapper) (a b : Counts) (t : Turn) → x ≡ Maps m → TurnCause job records script settings x a b t → TurnCause job records script settings (Maps m) a b t
cause_is job records script settings x m a b t is h = subst (λ (z : Acting). TurnCause job records script settings z a b t) is h
