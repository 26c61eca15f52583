-- One job more of a chain, and the first.
use Rattle.std.proofs.Common.{◌≡◌, ℕ, suc, ◌+◌, ◌-◌, ◌<◌, ◌≤◌, true, List, [], ◌∷◌, ◌++◌, length, map, drop, get_or, refl, sym, ap, ◌∙◌, arith, append_assoc, length-append, leb-true}
use Rattle.std.specs.Prelude.{All}
use Rattle.std.specs.List.{concat}
use Rattle.std.proofs.lemmas.List.Elements.{All-weaker, filter_passes}
use Rattle.std.proofs.Math.Seq.{drop-cons, get_or-append_seam}
use Rattle.hop_base.specs.Meaning.{Meaning}
use Rattle.hop_fold.specs.Within.{is_within, records_within}
use Rattle.hop_fold.proofs.WithinLaws.{none_is_long}
use Rattle.hop_laws.specs.Blocking.{blocking_texts}
use Rattle.hop_records.specs.Records.{records_of}
use Rattle.hop_jobs.specs.Known.{known_meaning}
use Rattle.hop_jobs.specs.declared.known.Known.{Known}
use Rattle.hop_chain.specs.Chain.{HasShortRecords, chained_texts, last_texts, later_texts, next_texts}

-- the texts so far, and those of the jobs that are left
pub one_later : (jobs : List Known) (i r : ℕ) (job : Known) (before : List (List ℕ)) (all : List (List (List ℕ))) → i < length jobs → get_or jobs i job ≡ job
    → all ++ later_texts (map known_meaning (drop i jobs)) before r ≡ (all ++ next_texts (known_meaning job) before r ∷ []) ++ later_texts (map known_meaning (drop (i + 1) jobs)) (next_texts (known_meaning job) before r) r
one_later jobs i r job before all within is =
    let next : suc i ≡ i + 1 = omega arith in
    let texts : List (List ℕ) = next_texts (known_meaning job) before r in
    ap (λ js. all ++ later_texts (map known_meaning js) before r) (drop-cons jobs i job within)
    ∙ ap (λ j. all ++ later_texts (map known_meaning (j ∷ drop (suc i) jobs)) before r) is
    ∙ ap (λ m. all ++ texts ∷ later_texts (map known_meaning (drop m jobs)) texts r) next
    ∙ sym (append_assoc all (texts ∷ []) (later_texts (map known_meaning (drop (i + 1) jobs)) texts r))

-- the texts that came last
pub last_more : (texts next : List (List ℕ)) (all : List (List (List ℕ))) → last_texts texts (all ++ next ∷ []) ≡ next
last_more texts next all =
    let long : length (all ++ next ∷ []) ≡ length all + 1 = length-append all (next ∷ []) in
    let last : length (all ++ next ∷ []) - 1 ≡ length all = omega (arith, long) in
    ap (λ n. get_or (all ++ next ∷ []) n texts) last ∙ get_or-append_seam all next [] texts

-- what the first job leaves out
pub first_records : (texts : List (List ℕ)) → All (λ line. length line ≤ 65556) (records_within 65556 texts)
first_records texts =
    All-weaker (λ line. is_within 65556 line ≡ true) (λ line. length line ≤ 65556) (λ line is. leb-true (length line) 65556 is) (records_within 65556 texts) (filter_passes (is_within 65556) (records_of (concat texts)))

-- it leaves nothing out where no record is long
pub nothing_left_out : (texts : List (List ℕ)) (meanings : List Meaning) (r : ℕ) → HasShortRecords 65556 texts → chained_texts meanings texts r ≡ later_texts meanings texts r
nothing_left_out texts [] r h = refl
nothing_left_out texts (meaning ∷ meanings) r h =
    ap (λ records. blocking_texts meaning records r ∷ later_texts meanings (blocking_texts meaning records r) r) (none_is_long 65556 (records_of (concat texts)) h)
