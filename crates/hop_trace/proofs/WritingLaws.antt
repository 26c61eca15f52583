-- A trace's text, as it is written.
use Rattle.std.proofs.Common.{◌≡◌, ℕ, ◌+◌, ◌<◌, ◌≤◌, List, [], ◌∷◌, ◌++◌, length, reverse, get_or, drop, take, refl, sym, ap, ◌∙◌, append_assoc, append-nil, add-one, arith, decimal}
use Rattle.std.specs.Prelude.{codes}
use Rattle.std.specs.List.{flat_map, enumerate_from}
use Rattle.std.proofs.Math.Seq.{drop-cons}
use Rattle.std.proofs.lemmas.List.{drop_all, get_or-map, flat_map_more, take_all, take_more}
use Rattle.std.proofs.lemmas.List.Folds.{flat_map-map}
use Rattle.std.proofs.lemmas.Grind.{flat_map-append}
use Rattle.hop_event.specs.declared.event.Event.{Event}
use Rattle.hop_event.specs.History.{HistoryValue}
use Rattle.hop_trace.specs.Trace.{event_line, begun_line, number_line, history_lines, begun_lines, all_histories, first_lines, last_line, line_text, text_of, trace_of, in_order}

module _ {A : Type 0} (piece : ℕ × A → List ℕ) where
  -- what is still to come behind the first i items
  abbrev pub pieces_from : ℕ → List A → List ℕ
  pieces_from i xs = flat_map piece (enumerate_from i (drop i xs))

  -- one more piece
  pub pieces_more : (xs : List A) (i : ℕ) (d : A) (whole text next : List ℕ) → i < length xs → text ++ pieces_from i xs ≡ whole → next ≡ text ++ piece (i, get_or xs i d) → next ++ pieces_from (i + 1) xs ≡ whole
  pieces_more xs i d whole text next l h e =
      ap (λ t. t ++ pieces_from (i + 1) xs) e ∙ append_assoc text (piece (i, get_or xs i d)) (pieces_from (i + 1) xs)
      ∙ ap (λ n. text ++ (piece (i, get_or xs i d) ++ flat_map piece (enumerate_from (i + 1) (drop n xs)))) (add-one i)
      ∙ sym (ap (λ ys. text ++ flat_map piece (enumerate_from i ys)) (drop-cons xs i d l)) ∙ h

  -- no more pieces
  pub pieces_end : (xs : List A) (i : ℕ) (whole text : List ℕ) → length xs ≤ i → text ++ pieces_from i xs ≡ whole → text ≡ whole
  pieces_end xs i whole text l h = sym (append-nil text) ∙ sym (ap (λ ys. text ++ flat_map piece (enumerate_from i ys)) (drop_all i xs l)) ∙ h

-- one more piece of a loop that counts what it has done
pub each_more : {A : Type 0} (piece : A → List ℕ) (xs : List A) (i : ℕ) (d : A) (t0 t1 t2 : List ℕ) → i < length xs → t1 ≡ t0 ++ flat_map piece (take i xs) → t2 ≡ t1 ++ piece (get_or xs i d) → t2 ≡ t0 ++ flat_map piece (take (i + 1) xs)
each_more piece xs i d t0 t1 t2 l h k = k ∙ ap (λ t. t ++ piece (get_or xs i d)) h ∙ flat_map_more piece t0 (take i xs) (get_or xs i d) ∙ ap (λ ys. t0 ++ flat_map piece ys) (sym (take_more xs i d l))

-- pieces of pieces
pub flat_map-flat_map : {A B C : Type 0} (g : B → List C) (f : A → List B) (xs : List A) → flat_map g (flat_map f xs) ≡ flat_map (λ x. flat_map g (f x)) xs
flat_map-flat_map g f [] = refl
flat_map-flat_map g f (x ∷ xs) = flat_map-append g (f x) (flat_map f xs) ∙ ap (λ ys. flat_map g (f x) ++ ys) (flat_map-flat_map g f xs)

-- the first lines
pub first_written : (name t0 t1 t2 t3 t4 t5 : List ℕ) (s r : ℕ) → t1 ≡ t0 ++ codes "hop-trace 1\njob " → t2 ≡ t1 ++ name → t3 ≡ t2 ++ codes "\n" → t4 ≡ t3 ++ (codes "splits " ++ (decimal s ++ 10 ∷ [])) → t5 ≡ t4 ++ (codes "reducers " ++ (decimal r ++ 10 ∷ [])) → t5 ≡ t0 ++ text_of (first_lines name s r)
first_written name t0 t1 t2 t3 t4 t5 s r h i j k l = rw (l, k, j, i, h) (simp append_assoc)

-- the lines of the splits
pub begun_written : (begun : List ℕ) (i : ℕ) (t0 t1 : List ℕ) → length begun ≤ i → t1 ++ pieces_from (λ x. line_text (begun_line x)) i begun ≡ t0 ++ flat_map (λ x. line_text (begun_line x)) (enumerate_from 0 begun) → t1 ≡ t0 ++ text_of (begun_lines begun)
begun_written begun i t0 t1 l h = pieces_end (λ x. line_text (begun_line x)) begun i _ t1 l h ∙ ap (λ t. t0 ++ t) (sym (flat_map-map line_text begun_line (enumerate_from 0 begun)))

-- the lines of one reducer
pub history_written : (events : List Event) (i p : ℕ) (t0 t1 t2 : List ℕ) → length events ≤ i → t1 ≡ t0 ++ (codes "reducer " ++ (decimal p ++ 10 ∷ [])) → t2 ≡ t1 ++ flat_map (λ e. line_text (event_line e)) (take i events) → t2 ≡ t0 ++ text_of (history_lines (p, events))
history_written events i p t0 t1 t2 l h k =
    let each : List ℕ = flat_map (λ e. line_text (event_line e)) events in
    let whole : t2 ≡ t1 ++ each = k ∙ ap (λ es. t1 ++ flat_map (λ e. line_text (event_line e)) es) (take_all i events l) in
    whole ∙ ap (λ t. t ++ each) h ∙ append_assoc t0 (line_text (number_line (codes "reducer") p)) each
    ∙ ap (λ t. t0 ++ (line_text (number_line (codes "reducer") p) ++ t)) (sym (flat_map-map line_text event_line events))

-- the lines of the reducers
pub histories_written : (histories : List (List Event)) (p : ℕ) (t0 t1 : List ℕ) → length histories ≤ p → t1 ++ pieces_from (λ x. text_of (history_lines x)) p histories ≡ t0 ++ flat_map (λ x. text_of (history_lines x)) (enumerate_from 0 histories) → t1 ≡ t0 ++ text_of (all_histories histories)
histories_written histories p t0 t1 l h = pieces_end (λ x. text_of (history_lines x)) histories p _ t1 l h ∙ ap (λ t. t0 ++ t) (sym (flat_map-flat_map line_text history_lines (enumerate_from 0 histories)))

text_of-append : (xs ys : List (List (List ℕ))) → text_of (xs ++ ys) ≡ text_of xs ++ text_of ys
text_of-append xs ys = flat_map-append line_text xs ys

-- the lines of a trace
pub trace_written : (name begun : List ℕ) (histories : List (List Event)) (t0 t1 t2 t3 t4 : List ℕ) → t0 ≡ [] → t1 ≡ t0 ++ text_of (first_lines name (length begun) (length histories)) → t2 ≡ t1 ++ text_of (begun_lines begun) → t3 ≡ t2 ++ text_of (all_histories histories) → t4 ≡ t3 ++ codes "end\n" → t4 ≡ trace_of name begun histories
trace_written name begun histories t0 t1 t2 t3 t4 h i j k l =
    let first : List (List (List ℕ)) = first_lines name (length begun) (length histories) in
    let three : text_of first ++ (text_of (begun_lines begun) ++ (text_of (all_histories histories) ++ text_of (last_line ∷ []))) ≡ trace_of name begun histories
    = ap (λ t. text_of first ++ (text_of (begun_lines begun) ++ t)) (sym (text_of-append (all_histories histories) (last_line ∷ [])))
    ∙ ap (λ t. text_of first ++ t) (sym (text_of-append (begun_lines begun) (all_histories histories ++ last_line ∷ [])))
    ∙ sym (text_of-append first (begun_lines begun ++ (all_histories histories ++ last_line ∷ []))) in
    rw (l, k, j, i, h) (append_assoc (text_of first ++ text_of (begun_lines begun)) (text_of (all_histories histories)) (codes "end\n") ∙ append_assoc (text_of first) (text_of (begun_lines begun)) (text_of (all_histories histories) ++ codes "end\n") ∙ three)

pub length-in_order : (histories : List HistoryValue) → length (in_order histories) ≡ length histories
length-in_order [] = refl
length-in_order (h ∷ histories) = omega (arith, length-in_order histories)

pub in_order-at : (histories : List HistoryValue) (p : ℕ) (h : HistoryValue) → p < length histories → h ≡ get_or histories p h → get_or (in_order histories) p [] ≡ reverse h.events
in_order-at histories p h l e = get_or-map (λ (h : HistoryValue). reverse h.events) histories p h [] l ∙ ap (λ (h : HistoryValue). reverse h.events) (sym e)
