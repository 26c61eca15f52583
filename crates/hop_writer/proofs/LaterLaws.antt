-- The later jobs' files, one more at a time.
use Rattle.std.proofs.Common.{◌≡◌, ◌+◌, ◌-◌, ◌≤◌, ◌<◌, ℕ, zero, suc, List, [], ◌∷◌, ◌++◌, Option, Some, None, ⊎_elim, eq-or-lt_of_le, le_of_suc-le-suc, ap, ◌∙◌, subst, arith, length, take, drop, get_or}
use Rattle.std.specs.Prelude.{All, map, Result, Ok, Err, OnOk}
use Rattle.std.specs.List.{concat, range_with_len}
use Rattle.std.proofs.lemmas.List.{append_assoc, length-map, map-append, take_all}
use Rattle.std.proofs.lemmas.List.Elements.{All-cons, All-nil}
use Rattle.std.proofs.lemmas.List.FromFn.{length-range_with_len}
use Rattle.hop_base.specs.Meaning.{Meaning}
use Rattle.hop_chain.specs.Chain.{chained_first, chained_texts, later_texts, next_texts}
use Rattle.hop_fold.specs.Within.{records_within}
use Rattle.hop_laws.specs.Blocking.{blocking, blocking_texts}
use Rattle.hop_records.specs.Records.{records_of}
use Rattle.hop_jobs.specs.Known.{known_meaning}
use Rattle.hop_jobs.specs.declared.known.Known.{Known}
use Rattle.hop_writer.specs.Later.{bodies_at, body_at, body_more, later_files, later_header, later_name, stage_files}
use Rattle.hop_writer.specs.Puts.{Puts, file_of, files_in}
use Rattle.hop_writer.specs.declared.files.NamedFile.{NamedFile}
use Rattle.hop_writer.specs.declared.kept.Kept.{Kept}

pub on_ok : {A E P Q : Type 0} (result : Result A E) → (P → Q) → OnOk result P → OnOk result Q
on_ok (Ok x) more holds = more holds
on_ok (Err e) more holds = tt

-- a file that was pushed stands before what comes later
pub pushed : (old : List NamedFile) (file : NamedFile) (new : List NamedFile) (rest : Puts) → new ≡ old ++ file ∷ [] → files_in new ++ rest ≡ files_in old ++ (file_of file ∷ rest)
pushed old file new rest e = ap (λ (fs : List NamedFile). files_in fs ++ rest) e ∙ ap (λ (fs : Puts). fs ++ rest) (map-append file_of old (file ∷ [])) ∙ append_assoc (files_in old) (file_of file ∷ []) rest

-- all but the first, as a pattern takes them
abbrev pub others_of : {A : Type 0} → List A → List A
others_of xs = take (length xs - 1) (drop 1 xs)

others_are : {A : Type 0} (x : A) (xs : List A) → others_of (x ∷ xs) ≡ xs
others_are x xs = let e : suc (length xs) - 1 ≡ length xs = omega arith in ap (λ n. take n xs) e ∙ take_all (length xs) xs (omega arith)

pub stage_more : (j : ℕ) (name : List ℕ) (mark r p : ℕ) (bodies : List (List ℕ)) (d body : List ℕ) → 1 ≤ length bodies → body ≡ get_or bodies 0 d
    → (later_name j mark p, later_header j name mark p r ++ body) ∷ stage_files j name mark r (p + 1) (others_of bodies) ≡ stage_files j name mark r p bodies
stage_more j name mark r p [] d body some is = absurd (omega (arith, some))
stage_more j name mark r p (b ∷ bodies) d body some is = λ i. (later_name j mark p, later_header j name mark p r ++ is i) ∷ stage_files j name mark r (p + 1) (others_are b bodies i)

pub later_more : (j mark r : ℕ) (jobs : List Known) (all : List (List (List ℕ))) (d job : Known) (e texts : List (List ℕ)) → 1 ≤ length jobs → 1 ≤ length all → job ≡ get_or jobs 0 d → texts ≡ get_or all 0 e
    → stage_files j (known_meaning job).name mark r 0 texts ++ later_files (j + 1) (map known_meaning (others_of jobs)) mark r (others_of all) ≡ later_files j (map known_meaning jobs) mark r all
later_more j mark r [] all d job e texts some more is are = absurd (omega (arith, some))
later_more j mark r (x ∷ jobs) [] d job e texts some more is are = absurd (omega (arith, more))
later_more j mark r (x ∷ jobs) (y ∷ all) d job e texts some more is are =
    λ i. stage_files j (known_meaning (is i)).name mark r 0 (are i) ++ later_files (j + 1) (map known_meaning (others_are x jobs i)) mark r (others_are y all i)

-- # Bodies

-- one body more
pub bodies_more : (kept : List Kept) (mark p next : ℕ) (bodies : List (List ℕ)) (body : List ℕ) → next ≡ suc p → bodies_at kept mark p ≡ Some bodies → body_at kept mark p ≡ Some body → bodies_at kept mark next ≡ Some (bodies ++ body ∷ [])
bodies_more kept mark p next bodies body is all one = ap (bodies_at kept mark) is ∙ (λ i. body_more (all i) (one i))

-- where one isn't there, more of them aren't
pub stay : (kept : List Kept) (mark p r : ℕ) → p < r → bodies_at kept mark (suc p) ≡ None → bodies_at kept mark r ≡ None
stay kept mark p zero less none = absurd (omega (arith, less))
stay kept mark p (suc k) less none = ⊎_elim (λ (e : p ≡ k). subst (λ (n : ℕ). bodies_at kept mark (suc n) ≡ None) e none)
    (λ (l : p < k). ap (λ (bodies : Option (List (List ℕ))). body_more bodies (body_at kept mark k)) (stay kept mark p k l none)) (eq-or-lt_of_le (le_of_suc-le-suc less))

pub none_more : (kept : List Kept) (mark p r : ℕ) (bodies : List (List ℕ)) → p < r → bodies_at kept mark p ≡ Some bodies → body_at kept mark p ≡ None → bodies_at kept mark r ≡ None
none_more kept mark p r bodies less all none = stay kept mark p r less (λ i. body_more (all i) (none i))

-- # Texts of the later jobs

-- a text for each partition
blocking_count : (meaning : Meaning) (records : List (List ℕ)) (r : ℕ) → length (blocking_texts meaning records r) ≡ r
blocking_count meaning records r = length-map (range_with_len 0 r) (λ p. blocking meaning records p r) ∙ length-range_with_len 0 r

abbrev AreFew : List (List ℕ) → Type 0
AreFew texts = length texts ≤ 255

few_later : (meanings : List Meaning) (texts : List (List ℕ)) (r : ℕ) → r ≤ 255 → All AreFew (later_texts meanings texts r)
few_later [] texts r few = All-nil AreFew
few_later (meaning ∷ meanings) texts r few =
    All-cons AreFew (next_texts meaning texts r) (later_texts meanings (next_texts meaning texts r) r) (omega (arith, few, blocking_count meaning (records_of (concat texts)) r)) (few_later meanings (next_texts meaning texts r) r few)

pub few_parts : (meanings : List Meaning) (texts : List (List ℕ)) (r : ℕ) → r ≤ 255 → All AreFew (chained_texts meanings texts r)
few_parts [] texts r few = All-nil AreFew
few_parts (meaning ∷ meanings) texts r few =
    All-cons AreFew (chained_first meaning texts r) (later_texts meanings (chained_first meaning texts r) r) (omega (arith, few, blocking_count meaning (records_within 65556 texts) r)) (few_later meanings (chained_first meaning texts r) r few)
