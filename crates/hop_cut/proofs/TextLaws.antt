-- A snapshot's text, as it is written.
use Rattle.std.proofs.Common.{◌≡◌, ℕ, zero, suc, ◌+◌, ◌<◌, ◌≤◌, Option, None, List, [], ◌∷◌, ◌++◌, length, take, get_or, refl, sym, ap, ◌∙◌, arith, append_assoc, add-one}
use Rattle.std.specs.Prelude.{codes}
use Rattle.std.specs.Option.{option_map}
use Rattle.std.specs.List.{flat_map}
use Rattle.std.proofs.lemmas.List.{take_all}
use Rattle.hop_base.specs.Meaning.{Meaning}
use Rattle.hop_base.specs.declared.part.Part.{Part}
use Rattle.hop_laws.specs.Groups.{red}
use Rattle.hop_laws.specs.Blocking.{emitted, part_records, part_pairs}
use Rattle.hop_laws.proofs.Emitted.{emitted-append}
use Rattle.hop_laws.proofs.StandsLaws.{red_stands}
use Rattle.hop_event.specs.declared.declared.Declared.{Declared}
use Rattle.hop_event.specs.Coverage.{progress_of}
use Rattle.hop_cut.specs.declared.head.SplitLine.{SplitLine}
use Rattle.hop_cut.specs.declared.cut.Cut.{Cut}
use Rattle.hop_cut.specs.Snapshot.{header_lines, split_line, split_lines, last_line, text_of}
use Rattle.hop_cut.specs.Parts.{first_lines}
use Rattle.hop_cut.specs.Covered.{declared_lines, declared_at, covered_parts, header_of, text_with, snapshot_text, IsOfCoverage}
use Rattle.hop_cut.proofs.HeadLaws.{text_of-append, split_lines-more}

abbrev line_of : Option Declared → ℕ → Option SplitLine
line_of d len = option_map (λ d. record { declared = d; len = len }) d

lines_more : (ds : List (Option Declared)) (ls : List ℕ) (i : ℕ) → i < length ds → i < length ls → declared_lines (take (suc i) ds) (take (suc i) ls) ≡ declared_lines (take i ds) (take i ls) ++ line_of (get_or ds i None) (get_or ls i 0) ∷ []
lines_more [] ls i h k = absurd (omega arith)
lines_more (d ∷ ds) [] i h k = absurd (omega arith)
lines_more (d ∷ ds) (l ∷ ls) zero h k = refl
lines_more (d ∷ ds) (l ∷ ls) (suc i) h k = ap (λ xs. line_of d l ∷ xs) (lines_more ds ls i (omega arith) (omega arith))

length-lines : (ds : List (Option Declared)) (ls : List ℕ) (i : ℕ) → i ≤ length ds → i ≤ length ls → length (declared_lines (take i ds) (take i ls)) ≡ i
length-lines ds ls zero h k = refl
length-lines [] ls (suc i) h k = absurd (omega arith)
length-lines (d ∷ ds) [] (suc i) h k = absurd (omega arith)
length-lines (d ∷ ds) (l ∷ ls) (suc i) h k = omega (arith, length-lines ds ls i (omega arith) (omega arith))

-- one more split's line
pub write_more : (ds : List (Option Declared)) (ls init text next : List ℕ) (i : ℕ) → i < length ds → i < length ls → text ≡ init ++ text_of (split_lines 0 (declared_lines (take i ds) (take i ls))) → next ≡ text ++ text_of (split_line i (line_of (get_or ds i None) (get_or ls i 0)) ∷ []) → next ≡ init ++ text_of (split_lines 0 (declared_lines (take (i + 1) ds) (take (i + 1) ls)))
write_more ds ls init text next i h k e f =
    let xs : List (Option SplitLine) = declared_lines (take i ds) (take i ls) in
    let s : Option SplitLine = line_of (get_or ds i None) (get_or ls i 0) in
    let place : 0 + length xs ≡ i = omega (arith, length-lines ds ls i (omega arith) (omega arith)) in
    let lines = split_lines-more 0 xs s ∙ ap (λ n. split_lines 0 xs ++ split_line n s ∷ []) place in
    let more = ap (λ n. declared_lines (take n ds) (take n ls)) (add-one i) ∙ lines_more ds ls i h k in
    f ∙ ap (λ t. t ++ text_of (split_line i s ∷ [])) e ∙ append_assoc init (text_of (split_lines 0 xs)) (text_of (split_line i s ∷ []))
    ∙ ap (λ t. init ++ t) (sym (text_of-append (split_lines 0 xs) (split_line i s ∷ [])) ∙ ap text_of (sym lines) ∙ ap (λ ss. text_of (split_lines 0 ss)) (sym more))

-- the last line
pub write_end : (ds : List (Option Declared)) (ls init text next : List ℕ) (i : ℕ) → length ds ≤ i → length ls ≤ i → text ≡ init ++ text_of (split_lines 0 (declared_lines (take i ds) (take i ls))) → next ≡ text ++ codes "--\n" → next ≡ init ++ text_of (split_lines 0 (declared_lines ds ls) ++ last_line ∷ [])
write_end ds ls init text next i h k e f =
    let whole = ap (λ (p : List (Option Declared)). declared_lines p (take i ls)) (take_all i ds h) ∙ ap (declared_lines ds) (take_all i ls k) in
    f ∙ ap (λ t. t ++ codes "--\n") (e ∙ ap (λ ss. init ++ text_of (split_lines 0 ss)) whole) ∙ append_assoc init (text_of (split_lines 0 (declared_lines ds ls))) (codes "--\n")
    ∙ ap (λ t. init ++ t) (sym (text_of-append (split_lines 0 (declared_lines ds ls)) (last_line ∷ [])))

-- the lines of a header
pub write_header : (name : List ℕ) (mark p r n : ℕ) (ls : List ℕ) (ds : List (Option Declared)) (none first second : List ℕ) → none ≡ [] → first ≡ none ++ text_of (first_lines name mark p r n) → second ≡ first ++ text_of (split_lines 0 (declared_lines ds ls) ++ last_line ∷ []) → second ≡ text_of (header_lines (header_of name mark p r n ls ds))
write_header name mark p r n ls ds none first second o e f =
    f ∙ ap (λ t. t ++ text_of (split_lines 0 (declared_lines ds ls) ++ last_line ∷ [])) (e ∙ ap (λ t. t ++ text_of (first_lines name mark p r n)) o) ∙ sym (text_of-append (first_lines name mark p r n) (split_lines 0 (declared_lines ds ls) ++ last_line ∷ []))

-- the pairs of ranges are those of their records
pub emitted_parts : (meaning : Meaning) (records : List (List ℕ)) (n p r : ℕ) (parts : List Part) → flat_map (part_pairs meaning records n p r) parts ≡ emitted meaning (flat_map (part_records records n) parts) p r
emitted_parts meaning records n p r [] = refl
emitted_parts meaning records n p r (part ∷ parts) = ap (λ ps. part_pairs meaning records n p r part ++ ps) (emitted_parts meaning records n p r parts) ∙ sym (emitted-append meaning (part_records records n part) (flat_map (part_records records n) parts) p r)

-- runs of a coverage reduce to the blocking job's text of what it covers
pub write_snapshot : (meaning : Meaning) (records : List (List ℕ)) (n p r : ℕ) (lens : List ℕ) (cut : Cut) → IsOfCoverage meaning records n p r lens cut → text_with (header_of meaning.name cut.mark p r cut.progress lens cut.declared) (red meaning.reduced (flat_map (λ run. run.sheet) cut.runs)) ≡ snapshot_text meaning records n p r lens cut.mark cut.declared
write_snapshot meaning records n p r lens cut h =
    let body = red_stands meaning.reduced (flat_map (λ run. run.sheet) cut.runs) (flat_map (part_pairs meaning records n p r) (covered_parts cut.declared)) h.stands ∙ ap (red meaning.reduced) (emitted_parts meaning records n p r (covered_parts cut.declared)) in
    ap (λ n. text_with (header_of meaning.name cut.mark p r n lens cut.declared) (red meaning.reduced (flat_map (λ run. run.sheet) cut.runs))) h.progress_is
    ∙ ap (text_with (header_of meaning.name cut.mark p r (progress_of lens (declared_at cut.declared)) lens cut.declared)) body
