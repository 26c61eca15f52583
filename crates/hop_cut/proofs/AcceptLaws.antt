-- A text that begins with a header has no line that isn't due before the header's end.
use Rattle.std.proofs.Common.{◌≡◌, ◌≢◌, ℕ, suc, ◌+◌, ◌<◌, ◌≤◌, ◌^◌, ◌==◌, ◌&&◌, not, Bool, true, false, Option, Some, None, List, [], ◌∷◌, ◌++◌, length, get_or, refl, sym, ap, ◌∙◌, subst, arith, append_assoc, decimal}
use Rattle.std.specs.Prelude.{codes}
use Rattle.std.specs.Char.{is_ascii_digit}
use Rattle.std.specs.List.{list_all, AllByRecursion}
use Rattle.std.proofs.lemmas.Bool.Decides.{nat_tests}
use Rattle.std.proofs.lemmas.List.Elements.{All-from_recursion, All-from_get_or, recursion_from_All}
use Rattle.std.proofs.lemmas.List.Folds.{list_all-append}
use Rattle.hop_cut.specs.declared.head.SplitLine.{SplitLine}
use Rattle.hop_cut.specs.Snapshot.{Header, IsHeader, header_lines, IsSplit, format_line, job_line, mark_line, reducer_line, progress_line, kind_words, split_words, split_line, split_lines, last_line, text_of, IsDue, IsFirstNotDue}
use Rattle.hop_base.proofs.Fronts.{first_passes, rest_passes, front_unique}
use Rattle.hop_cut.proofs.NumberLaws.{word_digits}

-- not a line feed
abbrev is_inner : ℕ → Bool
is_inner b = not (b == 10)

-- a line has no line feed inside
abbrev IsLine : List ℕ → Type 0
IsLine line = list_all is_inner line ≡ true

line-append : (xs ys : List ℕ) → IsLine xs → IsLine ys → IsLine (xs ++ ys)
line-append xs ys h k = list_all-append is_inner xs ys ∙ ap (λ b. b && list_all is_inner ys) h ∙ k

digit_inner : (b : ℕ) → is_ascii_digit b ≡ true → is_inner b ≡ true
digit_inner b h = grind (arith, nat_tests)

digits_line : (ds : List ℕ) → list_all is_ascii_digit ds ≡ true → IsLine ds
digits_line [] h = refl
digits_line (d ∷ ds) h = ap (λ b. b && list_all is_inner ds) (digit_inner d (first_passes is_ascii_digit d ds h)) ∙ digits_line ds (rest_passes is_ascii_digit d ds h)

decimal_line : (n : ℕ) → n < 2 ^ 32 → IsLine (decimal n)
decimal_line n h = digits_line (decimal n) (word_digits n h)

name_inner : (b : ℕ) → b ≢ 10 → is_inner b ≡ true
name_inner b h = grind (arith, nat_tests)

name_line : (name : List ℕ) → AllByRecursion (λ b. b ≢ 10) name → IsLine name
name_line [] h = refl
name_line (b ∷ bs) h = ap (λ t. t && list_all is_inner bs) (name_inner b h.0) ∙ name_line bs h.1

kind_line : (committed : Bool) → IsLine (kind_words committed)
kind_line true = refl
kind_line false = refl

split_is_line : (i : ℕ) (s : Option SplitLine) → i < 2 ^ 32 → IsSplit s → IsLine (split_line i s)
split_is_line i None l h = line-append (codes "split ") (decimal i ++ codes " none") refl (line-append (decimal i) (codes " none") (decimal_line i l) refl)
split_is_line i (Some s) l h =
    let kind = line-append (decimal s.len) (kind_words s.declared.committed) (decimal_line s.len (omega (arith, h.len))) (kind_line s.declared.committed) in
    let records = line-append (decimal s.declared.records) (codes " of " ++ (decimal s.len ++ kind_words s.declared.committed)) (decimal_line s.declared.records (omega (arith, h.within, h.len))) (line-append (codes " of ") (decimal s.len ++ kind_words s.declared.committed) refl kind) in
    let attempt = line-append (decimal s.declared.attempt) (codes " records " ++ (decimal s.declared.records ++ (codes " of " ++ (decimal s.len ++ kind_words s.declared.committed)))) (decimal_line s.declared.attempt (omega (arith, h.attempt))) (line-append (codes " records ") (decimal s.declared.records ++ (codes " of " ++ (decimal s.len ++ kind_words s.declared.committed))) refl records) in
    line-append (codes "split ") (decimal i ++ split_words (Some s)) refl (line-append (decimal i) (split_words (Some s)) (decimal_line i l) (line-append (codes " attempt ") (decimal s.declared.attempt ++ (codes " records " ++ (decimal s.declared.records ++ (codes " of " ++ (decimal s.len ++ kind_words s.declared.committed))))) refl attempt))

splits_are_lines : (i : ℕ) (splits : List (Option SplitLine)) → i + length splits ≤ 1024 → AllByRecursion IsSplit splits → AllByRecursion IsLine (split_lines i splits ++ last_line ∷ [])
splits_are_lines i [] l h = (refl, tt)
splits_are_lines i (s ∷ splits) l h = (split_is_line i s (omega (arith, l)) h.0, splits_are_lines (i + 1) splits (omega (arith, l)) h.1)

header_is_lines : (h : Header) → IsHeader h → AllByRecursion IsLine (header_lines h)
header_is_lines h r =
    let numbers = line-append (decimal h.reducer) (codes " of " ++ decimal h.reducers) (decimal_line h.reducer (omega (arith, r.below, r.few_reducers))) (line-append (codes " of ") (decimal h.reducers) refl (decimal_line h.reducers (omega (arith, r.few_reducers)))) in (
      refl,
      (
        line-append (codes "job ") h.name refl (name_line h.name (recursion_from_All (λ b. b ≢ 10) h.name r.named.no_line_feed)),
        (
          line-append (codes "mark ") (decimal h.mark) refl (decimal_line h.mark (omega (arith, r.mark_high))),
          (
            line-append (codes "reducer ") (decimal h.reducer ++ (codes " of " ++ decimal h.reducers)) refl numbers,
            (
              line-append (codes "progress ") (decimal h.progress) refl (decimal_line h.progress (omega (arith, r.progress_high))),
              splits_are_lines 0 h.splits (omega (arith, r.few)) (recursion_from_All IsSplit h.splits r.each),
            ),
          ),
        ),
      ),
    )

due_is_line : (place : ℕ) (line : List ℕ) → IsDue place line → IsLine line
due_is_line place line d = subst IsLine d.line_is (All-from_recursion IsLine (header_lines d.header) (header_is_lines d.header d.ranges) place [] d.within)

-- lines that two texts begin with are equal, and so is what follows them
line_seam : (l m r s : List ℕ) → IsLine l → IsLine m → l ++ (10 ∷ r) ≡ m ++ (10 ∷ s) → (l ≡ m) × (r ≡ s)
line_seam l m r s h k e =
    let both = front_unique is_inner l (10 ∷ r) m (10 ∷ s) h refl k refl e in
    let tails = both.1 in
    (both.0, cc)

-- Lines of which none ends a header stop before the end of a header's lines, and the header's next line follows.
abbrev Follows : List (List ℕ) → ℕ → List ℕ → Type 0
Follows lines k rest = (k < length lines) × ((after : List ℕ) × (rest ≡ get_or lines k [] ++ (10 ∷ after)))

follows_more : (m : List ℕ) (lines : List (List ℕ)) (k : ℕ) (rest : List ℕ) → Follows lines k rest → Follows (m ∷ lines) (suc k) rest
follows_more m lines k rest (l, (after, e)) = (omega (arith, l), (after, e))

walk : (ls ms : List (List ℕ)) (rest body : List ℕ) → AllByRecursion IsLine ls → AllByRecursion IsLine (ms ++ last_line ∷ []) → AllByRecursion (λ l. l ≢ last_line) ls → text_of ls ++ rest ≡ text_of (ms ++ last_line ∷ []) ++ body → Follows (ms ++ last_line ∷ []) (length ls) rest
walk [] [] rest body h k n e = (omega arith, (body, e))
walk [] (m ∷ ms) rest body h k n e = (omega arith, (text_of (ms ++ last_line ∷ []) ++ body, e ∙ append_assoc m (10 ∷ text_of (ms ++ last_line ∷ [])) body))
walk (l ∷ ls) [] rest body h k n e = absurd (n.0 (line_seam l last_line (text_of ls ++ rest) body h.0 k.0 (sym (append_assoc l (10 ∷ text_of ls) rest) ∙ e)).0)
walk (l ∷ ls) (m ∷ ms) rest body h k n e =
    let seam = line_seam l m (text_of ls ++ rest) (text_of (ms ++ last_line ∷ []) ++ body) h.0 k.0 (sym (append_assoc l (10 ∷ text_of ls) rest) ∙ e ∙ append_assoc m (10 ∷ text_of (ms ++ last_line ∷ [])) body) in
    follows_more m (ms ++ last_line ∷ []) (length ls) rest (walk ls ms rest body h.1 k.1 n.1 seam.1)

-- a text that begins with a header is not refused
pub no_fault : (text : List ℕ) (number : ℕ) (h : Header) (body : List ℕ) → IsHeader h → text ≡ text_of (header_lines h) ++ body → IsFirstNotDue text number → ⊥
no_fault text number h body r t f =
    let ls = recursion_from_All IsLine f.lines (All-from_get_or IsLine f.lines [] (λ i l. due_is_line i (get_or f.lines i []) (f.due i l).0)) in
    let open_ls = recursion_from_All (λ l. l ≢ last_line) f.lines (All-from_get_or (λ l. l ≢ last_line) f.lines [] (λ i l. (f.due i l).1)) in
    let next = walk f.lines (format_line ∷ job_line h.name ∷ mark_line h.mark ∷ reducer_line h.reducer h.reducers ∷ progress_line h.progress ∷ split_lines 0 h.splits) f.rest body ls (header_is_lines h r) open_ls (sym f.text_is ∙ t) in
    f.stops (get_or (header_lines h) (length f.lines) []) next.1.0 next.1.1 (record { header = h; ranges = r; within = next.0; line_is = refl })
