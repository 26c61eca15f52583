-- How a run without marks begins.
use Rattle.std.proofs.Common.{◌≡◌, ℕ, zero, suc, ◌+◌, Bool, List, [], ◌∷◌, length, map, refl, sym, ap, ◌∙◌, subst, Some, arith}
use Rattle.std.proofs.lemmas.Option.{same_Some}
use Rattle.std.specs.Prelude.{All}
use Rattle.std.specs.List.{slice_get, range_with_len}
use Rattle.std.proofs.lemmas.List.FromFn.{length-map-range_with_len}
use Rattle.hop_machine.specs.step.Steps.{Deeds, Setup, rules_of}
use Rattle.hop_machine.specs.actors.MapperTurns.{Mapper}
use Rattle.hop_machine.specs.actors.ReducerTurns.{Reducer, Writer}
use Rattle.hop_machine.specs.home.Starts.{new_mapper, new_reducer, new_writer}
use Rattle.hop_machine.specs.play.FirstState.{new_actors, IsNew}
use Rattle.hop_machine.specs.run.AllHome.{IsStart}
use Rattle.hop_script.specs.declared.turn.Turn.{Turn}
use Rattle.hop_script.specs.TurnLines.{IsTurn}
use Rattle.hop_settle.specs.Crews.{actors_of}
use Rattle.hop_settle.specs.Playing.{numbers}
use Rattle.hop_start.specs.Made.{actors_with}

map-own : {A : Type 0} (xs : List A) → map (λ x. x) xs ≡ xs
map-own [] = refl
map-own (x ∷ xs) = ap (λ l. x ∷ l) (map-own xs)

module _ (s : Setup) (backup : Bool) (mappers : List Mapper) (reducers : List Reducer) (are : mappers ≡ (new_actors s backup).mappers) (takers : reducers ≡ (new_actors s backup).reducers) where
  -- there are as many mappers as workers, and as many reducers as partitions
  workers : length mappers ≡ s.workers
  workers = ap (λ (l : List Mapper). length l) are ∙ length-map-range_with_len (λ w. new_mapper w (rules_of s) backup s.reducers) 0 s.workers

  partitions : length reducers ≡ s.reducers
  partitions = ap (λ (l : List Reducer). length l) takers ∙ length-map-range_with_len (λ p. new_reducer p s) 0 s.reducers

  -- a turn list for these numbers is one for these lists
  pub turns-fit : {M D G : Type 0} (ms : List M) (ds : List D) (gs : List G) (turns : List Turn) → length ms ≡ length mappers → length ds ≡ length reducers → length gs ≡ 0
      → All (IsTurn (numbers s.workers s.reducers 0)) turns → All (IsTurn (numbers (length ms) (length ds) (length gs))) turns
  turns-fit ms ds gs turns m d g all = subst (λ n. All (IsTurn n) turns) (λ i. numbers (sym (m ∙ workers) i) (sym (d ∙ partitions) i) (sym g i)) all

  -- they are a start with any writer that is new
  pub started : (d : Deeds) (x : Writer) → x ≡ new_writer s → IsStart backup (actors_with s mappers reducers) d → IsStart backup (actors_of mappers (map (λ r. r) reducers) x) d
  started d x is h = subst (λ (k : List Reducer × Writer). IsStart backup (actors_of mappers k.0 k.1) d) (λ i. (sym (map-own reducers) i, sym is i)) h

  pub newly : (d : Deeds) (x : Writer) → x ≡ new_writer s → IsNew backup (record { actors = actors_with s mappers reducers; deeds = d }) → IsNew backup (record { actors = actors_of mappers (map (λ r. r) reducers) x; deeds = d })
  newly d x is h = subst (λ (k : List Reducer × Writer). IsNew backup (record { actors = actors_of mappers k.0 k.1; deeds = d })) (λ i. (sym (map-own reducers) i, sym is i)) h

-- a new mapper has the number of its place
number-from : (s : Setup) (backup : Bool) (n from w : ℕ) (m : Mapper) → slice_get (map (λ w. new_mapper w (rules_of s) backup s.reducers) (range_with_len from n)) w ≡ Some m → m.number ≡ from + w
number-from s backup zero from w m e = cc
number-from s backup (suc n) from zero m e =
    let same : new_mapper from (rules_of s) backup s.reducers ≡ m = same_Some _ m e in
    let is : from ≡ m.number = ap (λ (k : Mapper). k.number) same in omega (arith, is)
number-from s backup (suc n) from (suc w) m e = let is = number-from s backup n (from + 1) w m e in omega (arith, is)

pub number-at : (s : Setup) (backup : Bool) (mappers : List Mapper) → mappers ≡ (new_actors s backup).mappers → (w : ℕ) (m : Mapper) → slice_get mappers w ≡ Some m → m.number ≡ w
number-at s backup mappers are w m e = let is = number-from s backup s.workers 0 w m (ap (λ (l : List Mapper). slice_get l w) (sym are) ∙ e) in omega (arith, is)
