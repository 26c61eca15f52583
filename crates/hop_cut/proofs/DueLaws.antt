-- The first line of a text that isn't due in a header.
use Rattle.std.proofs.Common.{◌≡◌, ◌≢◌, ℕ, zero, suc, ◌+◌, ◌-◌, ◌<◌, ◌≤◌, ◌⊎◌, inl, inr, Option, List, [], ◌∷◌, ◌++◌, length, get_or, refl, sym, ap, ◌∙◌, subst, arith, append_assoc, length-append, decimal}
use Rattle.std.specs.Prelude.{codes, All}
use Rattle.std.specs.List.{AllByRecursion}
use Rattle.std.proofs.lemmas.List.Elements.{All-from_recursion, recursion_from_All}
use Rattle.std.proofs.lemmas.List.{get_or_append_left}
use Rattle.hop_laws.specs.Laws.{IsName}
use Rattle.hop_cut.specs.declared.head.SplitLine.{SplitLine}
use Rattle.hop_cut.specs.declared.head.SnapHead.{SnapHead}
use Rattle.hop_cut.specs.Snapshot.{Header, IsHeader, header_lines, IsSplit, format_line, job_line, mark_line, reducer_line, progress_line, split_line, split_lines, last_line, text_of, IsDue, IsFirstNotDue, IsHead}
use Rattle.hop_cut.specs.Lines.{IsJobLine, IsNumberLine, IsReducerLine}
use Rattle.hop_cut.specs.Parts.{first_lines, IsFirstPart, IsSplitsPart, SplitsStop}
use Rattle.hop_cut.proofs.HeadLaws.{text_of-append}

short_name : IsName (codes "x")
short_name = record {
  some = omega arith;
  no_line_feed = All-from_recursion (λ b. b ≢ 10) (codes "x") ((λ e. absurd (omega arith)), tt);
  no_space = All-from_recursion (λ b. b ≢ 32) (codes "x") ((λ e. absurd (omega arith)), tt);
}

-- a header without splits
abbrev bare : List ℕ → ℕ → ℕ → ℕ → Header
bare name mark p r = record { name = name; mark = mark; reducer = p; reducers = r; progress = 0; splits = [] }

bare_ranges : (name : List ℕ) (mark p r : ℕ) → IsName name → 1 ≤ mark → mark ≤ 10000 → p < r → r ≤ 8 → IsHeader (bare name mark p r)
bare_ranges name mark p r named low high below few = record { named = named; mark_low = low; mark_high = high; below = below; few_reducers = few; progress_high = omega arith; few = omega arith; each = All-from_recursion IsSplit [] tt }

-- lines that some header begins with, where none that is due comes next
not_due : (h : Header) → IsHeader h → (text : List ℕ) (lines : List (List ℕ)) (next : List ℕ) (more : List (List ℕ)) (rest : List ℕ) (number : ℕ) → header_lines h ≡ lines ++ next ∷ more → AllByRecursion (λ l. l ≢ last_line) lines → number ≡ length lines + 1 → text ≡ text_of lines ++ rest → ((line after : List ℕ) → rest ≡ line ++ (10 ∷ after) → IsDue (length lines) line → ⊥) → IsFirstNotDue text number
not_due h ranges text lines next more rest number e going n t stop = record {
  lines = lines;
  rest = rest;
  text_is = t;
  number_is = n;
  due = λ k l. (
    record {
      header = h;
      ranges = ranges;
      within = subst (λ ls. k < length ls) (sym e) (omega (arith, l, length-append lines (next ∷ more)));
      line_is = ap (λ ls. get_or ls k []) e ∙ get_or_append_left lines (next ∷ more) [] k l;
    },
    All-from_recursion (λ x. x ≢ last_line) lines going k [] l,
  );
  stops = stop;
}

pub stop_format : (text : List ℕ) → ((rest : List ℕ) → text ≡ codes "hop-snapshot 1\n" ++ rest → ⊥) → IsFirstNotDue text 1
stop_format text none = not_due (bare (codes "x") 1 0 1) (bare_ranges (codes "x") 1 0 1 short_name (omega arith) (omega arith) (omega arith) (omega arith)) text [] _ _ text 1 refl tt refl refl
    (λ line after e d. none after (e ∙ ap (λ l. l ++ (10 ∷ after)) (sym d.line_is)))

pub stop_job : (text rest : List ℕ) → text ≡ codes "hop-snapshot 1\n" ++ rest → ((name after : List ℕ) → IsJobLine rest name after → ⊥) → IsFirstNotDue text 2
stop_job text rest t none = not_due (bare (codes "x") 1 0 1) (bare_ranges (codes "x") 1 0 1 short_name (omega arith) (omega arith) (omega arith) (omega arith)) text (format_line ∷ []) _ _ rest 2 refl ((λ x. cc), tt) refl t
    (λ line after e d. none d.header.name after (record { named = d.ranges.named; text_is = e ∙ ap (λ l. l ++ (10 ∷ after)) (sym d.line_is) }))

line_first : (line : List ℕ) (lines : List (List ℕ)) (rest : List ℕ) → text_of (line ∷ lines) ++ rest ≡ line ++ (10 ∷ (text_of lines ++ rest))
line_first line lines rest = append_assoc line (10 ∷ text_of lines) rest

reducer_text : (p r : ℕ) (after : List ℕ) → text_of (reducer_line p r ∷ []) ++ after ≡ codes "reducer " ++ (decimal p ++ (codes " of " ++ (decimal r ++ (10 ∷ after))))
reducer_text p r after = line_first (reducer_line p r) [] after ∙ ap (λ t. codes "reducer " ++ t) (append_assoc (decimal p) (codes " of " ++ decimal r) (10 ∷ after))

three_lines : (name : List ℕ) (mark : ℕ) (after : List ℕ) → codes "hop-snapshot 1\n" ++ (job_line name ++ (10 ∷ (codes "mark " ++ (decimal mark ++ (10 ∷ after))))) ≡ text_of (format_line ∷ job_line name ∷ mark_line mark ∷ []) ++ after
three_lines name mark after = ap (λ t. codes "hop-snapshot 1\n" ++ t) (ap (λ t. job_line name ++ (10 ∷ t)) (sym (line_first (mark_line mark) [] after)) ∙ sym (line_first (job_line name) (mark_line mark ∷ []) after))

four_lines : (name : List ℕ) (mark p r : ℕ) (after : List ℕ) → codes "hop-snapshot 1\n" ++ (job_line name ++ (10 ∷ (codes "mark " ++ (decimal mark ++ (10 ∷ (codes "reducer " ++ (decimal p ++ (codes " of " ++ (decimal r ++ (10 ∷ after)))))))))) ≡ text_of (format_line ∷ job_line name ∷ mark_line mark ∷ reducer_line p r ∷ []) ++ after
four_lines name mark p r after = ap (λ t. codes "hop-snapshot 1\n" ++ t) (ap (λ t. job_line name ++ (10 ∷ t)) (ap (λ t. mark_line mark ++ (10 ∷ t)) (sym (reducer_text p r after)) ∙ sym (line_first (mark_line mark) (reducer_line p r ∷ []) after)) ∙ sym (line_first (job_line name) (mark_line mark ∷ reducer_line p r ∷ []) after))

module _ (text name after_name : List ℕ) (named : IsName name) (text_is : text ≡ codes "hop-snapshot 1\n" ++ (job_line name ++ (10 ∷ after_name))) where
  pub stop_mark : ((mark : ℕ) (after : List ℕ) → IsNumberLine (codes "mark ") 1 10000 after_name mark after → ⊥) → IsFirstNotDue text 3
  stop_mark none = not_due (bare name 1 0 1) (bare_ranges name 1 0 1 named (omega arith) (omega arith) (omega arith) (omega arith)) text (format_line ∷ job_line name ∷ []) _ _ after_name 3 refl ((λ x. cc), ((λ x. cc), tt)) refl (text_is ∙ simp append_assoc)
      (λ line after e d. none d.header.mark after (record { low_is = d.ranges.mark_low; high_is = d.ranges.mark_high; text_is = e ∙ ap (λ l. l ++ (10 ∷ after)) (sym d.line_is) ∙ simp append_assoc }))

  module _ (mark : ℕ) (after_mark : List ℕ) (m : IsNumberLine (codes "mark ") 1 10000 after_name mark after_mark) where
    pub stop_reducer : ((p r : ℕ) (after : List ℕ) → IsReducerLine after_mark p r after → ⊥) → IsFirstNotDue text 4
    stop_reducer none = not_due (bare name mark 0 1) (bare_ranges name mark 0 1 named m.low_is m.high_is (omega arith) (omega arith)) text (format_line ∷ job_line name ∷ mark_line mark ∷ []) _ _ after_mark 4 refl ((λ x. cc), ((λ x. cc), ((λ x. cc), tt))) refl (text_is ∙ ap (λ t. codes "hop-snapshot 1\n" ++ (job_line name ++ (10 ∷ t))) m.text_is ∙ three_lines name mark after_mark)
        (λ line after e d. none d.header.reducer d.header.reducers after (record { below = d.ranges.below; few = d.ranges.few_reducers; text_is = e ∙ ap (λ l. l ++ (10 ∷ after)) (sym d.line_is) ∙ simp append_assoc }))

    module _ (p r : ℕ) (after_reducer : List ℕ) (q : IsReducerLine after_mark p r after_reducer) where
      pub stop_progress : ((n : ℕ) (after : List ℕ) → IsNumberLine (codes "progress ") 0 10000 after_reducer n after → ⊥) → IsFirstNotDue text 5
      stop_progress none = not_due (bare name mark p r) (bare_ranges name mark p r named m.low_is m.high_is q.below q.few) text (format_line ∷ job_line name ∷ mark_line mark ∷ reducer_line p r ∷ []) _ _ after_reducer 5 refl ((λ x. cc), ((λ x. cc), ((λ x. cc), ((λ x. cc), tt)))) refl (text_is ∙ ap (λ t. codes "hop-snapshot 1\n" ++ (job_line name ++ (10 ∷ t))) (m.text_is ∙ ap (λ t. codes "mark " ++ (decimal mark ++ (10 ∷ t))) q.text_is) ∙ four_lines name mark p r after_reducer)
          (λ line after e d. none d.header.progress after (record { low_is = omega arith; high_is = d.ranges.progress_high; text_is = e ∙ ap (λ l. l ++ (10 ∷ after)) (sym d.line_is) ∙ simp append_assoc }))

past_five : (a b c d e : List ℕ) (xs : List (List ℕ)) (i : ℕ) → get_or (a ∷ b ∷ c ∷ d ∷ e ∷ xs) (i + 5) [] ≡ get_or xs i []
past_five a b c d e xs i = let k : i + 5 ≡ suc (suc (suc (suc (suc i)))) = omega arith in ap (λ n. get_or (a ∷ b ∷ c ∷ d ∷ e ∷ xs) n []) k

-- a line behind the first five is one of a split, or the last
split_at : (j : ℕ) (splits : List (Option SplitLine)) (i : ℕ) → AllByRecursion IsSplit splits → i < length (split_lines j splits ++ last_line ∷ []) → (get_or (split_lines j splits ++ last_line ∷ []) i [] ≡ last_line) ⊎ ((i < length splits) × ((s : Option SplitLine) × IsSplit s × (get_or (split_lines j splits ++ last_line ∷ []) i [] ≡ split_line (j + i) s)))
split_at j [] zero r h = inl refl
split_at j [] (suc i) r h = absurd (omega arith)
split_at j (s ∷ splits) zero r h = inr (omega arith, (s, r.0, let e : j ≡ j + 0 = omega arith in ap (λ n. split_line n s) e))
split_at j (s ∷ splits) (suc i) r h = shift (split_at (j + 1) splits i r.1 (omega arith))
  where
    shift : (get_or (split_lines (j + 1) splits ++ last_line ∷ []) i [] ≡ last_line) ⊎ ((i < length splits) × ((t : Option SplitLine) × IsSplit t × (get_or (split_lines (j + 1) splits ++ last_line ∷ []) i [] ≡ split_line (j + 1 + i) t))) → (get_or (split_lines (j + 1) splits ++ last_line ∷ []) i [] ≡ last_line) ⊎ ((suc i < length (s ∷ splits)) × ((t : Option SplitLine) × IsSplit t × (get_or (split_lines (j + 1) splits ++ last_line ∷ []) i [] ≡ split_line (j + suc i) t)))
    shift (inl e) = inl e
    shift (inr (l, (t, k, e))) = inr (omega arith, (t, k, let n : j + 1 + i ≡ j + suc i = omega arith in e ∙ ap (λ n. split_line n t) n))

due_behind : (i place : ℕ) (line : List ℕ) → place ≡ i + 5 → IsDue place line → (line ≡ last_line) ⊎ ((i < 1024) × ((s : Option SplitLine) × IsSplit s × (line ≡ split_line i s)))
due_behind i place line p d =
    let h = d.header in
    let xs : List (List ℕ) = split_lines 0 h.splits ++ last_line ∷ [] in
    let at = past_five format_line (job_line h.name) (mark_line h.mark) (reducer_line h.reducer h.reducers) (progress_line h.progress) xs i in
    let here : get_or xs i [] ≡ line = sym at ∙ ap (λ n. get_or (header_lines h) n []) (sym p) ∙ d.line_is in
    let inside : i < length xs = omega (arith, d.within, p) in
    told (split_at 0 h.splits i (recursion_from_All IsSplit h.splits d.ranges.each) inside) here
  where
    told : (get_or (split_lines 0 d.header.splits ++ last_line ∷ []) i [] ≡ last_line) ⊎ ((i < length d.header.splits) × ((s : Option SplitLine) × IsSplit s × (get_or (split_lines 0 d.header.splits ++ last_line ∷ []) i [] ≡ split_line (0 + i) s))) → get_or (split_lines 0 d.header.splits ++ last_line ∷ []) i [] ≡ line → (line ≡ last_line) ⊎ ((i < 1024) × ((s : Option SplitLine) × IsSplit s × (line ≡ split_line i s)))
    told (inl e) h = inl (sym h ∙ e)
    told (inr (l, (s, k, e))) h = inr (omega (arith, l, d.ranges.few), (s, k, let n : 0 + i ≡ i = omega arith in sym h ∙ e ∙ ap (λ n. split_line n s) n))

lines_open : (j : ℕ) (splits : List (Option SplitLine)) → AllByRecursion (λ l. l ≢ last_line) (split_lines j splits)
lines_open j [] = tt
lines_open j (s ∷ splits) = ((λ x. cc), lines_open (j + 1) splits)

length-split_lines : (j : ℕ) (splits : List (Option SplitLine)) → length (split_lines j splits) ≡ length splits
length-split_lines j [] = refl
length-split_lines j (s ∷ splits) = omega (arith, length-split_lines (j + 1) splits)

module _ (text : List ℕ) (mark p r n : ℕ) (rest : List ℕ) (f : IsFirstPart text mark p r n rest) where
  whole : List (Option SplitLine) → Header
  whole splits = record { name = f.name; mark = mark; reducer = p; reducers = r; progress = n; splits = splits }

  ranges_of : (splits : List (Option SplitLine)) → length splits ≤ 1024 → All IsSplit splits → IsHeader (whole splits)
  unfolding whole
  ranges_of splits few each = record { named = f.named; mark_low = f.mark_low; mark_high = f.mark_high; below = f.below; few_reducers = f.few; progress_high = f.progress_high; few = few; each = each }

  -- where the lines of the splits stop, so does the header
  pub stop_splits : (number : ℕ) → SplitsStop rest number → IsFirstNotDue text number
  unfolding whole
  stop_splits number s = not_due (whole s.splits) (ranges_of s.splits s.few s.each) text (first_lines f.name mark p r n ++ split_lines 0 s.splits) last_line [] s.rest number refl ((λ x. cc), ((λ x. cc), ((λ x. cc), ((λ x. cc), ((λ x. cc), lines_open 0 s.splits)))))
      (omega (arith, s.number_is, length-split_lines 0 s.splits))
      (f.text_is ∙ ap (λ t. text_of (first_lines f.name mark p r n) ++ t) s.text_is ∙ sym (append_assoc (text_of (first_lines f.name mark p r n)) (text_of (split_lines 0 s.splits)) s.rest) ∙ ap (λ t. t ++ s.rest) (sym (text_of-append (first_lines f.name mark p r n) (split_lines 0 s.splits))))
      (λ line after e d. neither line after e (due_behind (length s.splits) _ line (omega (arith, length-split_lines 0 s.splits)) d))
    where
      neither : (line after : List ℕ) → s.rest ≡ line ++ (10 ∷ after) → (line ≡ last_line) ⊎ ((length s.splits < 1024) × ((t : Option SplitLine) × IsSplit t × (line ≡ split_line (length s.splits) t))) → ⊥
      neither line after e (inl k) = s.no_end after (e ∙ ap (λ l. l ++ (10 ∷ after)) k)
      neither line after e (inr (few, (t, k, l))) = s.no_split few t after (record { ranges = k; text_is = e ∙ ap (λ l. l ++ (10 ∷ after)) l ∙ simp append_assoc })

  -- the two parts of a header make one
  pub read_whole : (head : SnapHead) (body : List ℕ) → IsSplitsPart rest head.declared body → head.mark ≡ mark → head.reducer ≡ p → head.reducers ≡ r → head.progress ≡ n → head.body ≡ length text - length body → IsHead text head
  unfolding whole
  read_whole head body s m q u v b =
      let t : text ≡ text_of (header_lines (whole s.splits)) ++ body = f.text_is ∙ ap (λ t. text_of (first_lines f.name mark p r n) ++ t) s.text_is ∙ sym (append_assoc (text_of (first_lines f.name mark p r n)) (text_of (split_lines 0 s.splits ++ last_line ∷ [])) body) ∙ ap (λ t. t ++ body) (sym (text_of-append (first_lines f.name mark p r n) (split_lines 0 s.splits ++ last_line ∷ []))) in
      record {
        header = whole s.splits;
        body = body;
        ranges = ranges_of s.splits s.few s.each;
        text_is = t;
        says = record { mark_is = m; reducer_is = q; reducers_are = u; progress_is = v; declared_are = s.declared_are; body_is = omega (arith, b, ap length t, length-append (text_of (header_lines (whole s.splits))) body) };
      }
