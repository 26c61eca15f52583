-- A script of which some lines were read.
use Rattle.std.proofs.Common.{◌≡◌, ℕ, ◌+◌, ◌≤◌, true, false, List, [], length, take, drop, None, Some, ap, ◌∙◌, arith}
use Rattle.std.proofs.lemmas.List.{take_all}
use Rattle.hop_script.specs.Script.{said_by, given, is_bad, is_bad_behind, first_bad}
use Rattle.hop_script.specs.Draft.{IsDraftOf, BeginsBadly, Begins}
use Rattle.hop_script.specs.declared.draft.Draft.{Draft}
use Rattle.hop_script.proofs.ReadLemmas.{next_item, no_item, GoodBefore, good_before_next, first_bad_line, no_bad_line, given-push}

-- the first n lines of the text were read and are good, the draft has them, and this is left
pub record IsReading (text rest : List ℕ) (n : ℕ) (left : Draft) : Type 0 where
  pub fits : n + length rest ≤ length text
  pub rest_said : drop n (said_by text) ≡ said_by rest
  pub good : GoodBefore (is_bad (said_by text)) (length (said_by text)) n
  pub draft : IsDraftOf left (given (take n (said_by text)))

-- one more line
pub IsReading-next : (text rest after : List ℕ) (n : ℕ) (old new : Draft) → IsReading text rest n old → Begins rest (given (take n (said_by text))) new after → IsReading text after (n + 1) new
IsReading-next text rest after n old new reading begins =
    let said = said_by text in
    let next = next_item said n (Some begins.line) (said_by after) (reading.rest_said ∙ begins.said) in
    let good : is_bad said n ≡ false = ap (is_bad_behind (given (take n said))) (next.here None) ∙ begins.good in
    let lines = ap given next.taken ∙ given-push (take n said) begins.line in
    record {
      fits = omega (arith, reading.fits, begins.shorter);
      rest_said = next.rest;
      good = good_before_next (is_bad said) (length said) n next.within good reading.good;
      draft = rw lines begins.draft;
    }

-- the next line is the first bad one
pub IsReading-bad : (text rest : List ℕ) (n : ℕ) (left : Draft) → IsReading text rest n left → BeginsBadly rest (given (take n (said_by text))) → first_bad text ≡ Some (n + 1)
IsReading-bad text rest n left reading begins =
    let said = said_by text in
    let next = next_item said n begins.0 begins.1 (reading.rest_said ∙ begins.2) in
    let is : is_bad said n ≡ true = ap (is_bad_behind (given (take n said))) (next.here None) ∙ begins.3 in
    first_bad_line (is_bad said) (length said) n next.within is reading.good

-- no line is left
pub IsReading-done : (text rest : List ℕ) (n : ℕ) (left : Draft) → IsReading text rest n left → rest ≡ [] → first_bad text ≡ None
IsReading-done text rest n left reading done =
    let said = said_by text in
    no_bad_line (is_bad said) (length said) n (no_item said n (reading.rest_said ∙ ap said_by done)) reading.good

pub IsReading-draft : (text rest : List ℕ) (n : ℕ) (left : Draft) → IsReading text rest n left → rest ≡ [] → IsDraftOf left (given (said_by text))
IsReading-draft text rest n left reading done =
    let said = said_by text in
    rw (take_all n said (no_item said n (reading.rest_said ∙ ap said_by done))) at reading.draft
