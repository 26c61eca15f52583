-- The line of a job's name.
use Rattle.std.proofs.Common.{◌≡◌, ◌≢◌, ℕ, ◌<◌, true, List, [], ◌∷◌, ◌++◌, length, take, drop, ◌&&◌, refl, sym, ap, ◌∙◌, subst, arith, append_assoc}
use Rattle.std.specs.Prelude.{codes}
use Rattle.std.specs.List.{list_all, AllByRecursion}
use Rattle.std.proofs.lemmas.Bool.{true≢false}
use Rattle.std.proofs.lemmas.Bool.Decides.{nat_tests}
use Rattle.std.proofs.lemmas.List.Elements.{All-from_recursion, recursion_from_All}
use Rattle.std.proofs.lemmas.List.{append_cancel_left, take-append-drop}
use Rattle.hop_laws.specs.Laws.{IsName}
use Rattle.hop_base.specs.Fronts.{StopsAt}
use Rattle.hop_cut.specs.Numbers.{is_name_byte}
use Rattle.hop_cut.specs.Lines.{IsJobLine}
use Rattle.hop_base.proofs.Fronts.{front_unique, first_passes, rest_passes}

name_byte : (b : ℕ) → b ≢ 32 → b ≢ 10 → is_name_byte b ≡ true
name_byte b h k = grind (arith, nat_tests)

no_space : (b : ℕ) → is_name_byte b ≡ true → b ≢ 32
no_space b h e = true≢false (sym h ∙ ap is_name_byte e)

no_feed : (b : ℕ) → is_name_byte b ≡ true → b ≢ 10
no_feed b h e = true≢false (sym h ∙ ap is_name_byte e)

bytes_of : (name : List ℕ) → AllByRecursion (λ b. b ≢ 10) name → AllByRecursion (λ b. b ≢ 32) name → list_all is_name_byte name ≡ true
bytes_of [] h k = refl
bytes_of (b ∷ name) h k = ap (λ t. t && list_all is_name_byte name) (name_byte b k.0 h.0) ∙ bytes_of name h.1 k.1

all_of : (P : ℕ → Type 0) → ((b : ℕ) → is_name_byte b ≡ true → P b) → (name : List ℕ) → list_all is_name_byte name ≡ true → AllByRecursion P name
all_of P p [] h = tt
all_of P p (b ∷ name) h = (p b (first_passes is_name_byte b name h), all_of P p name (rest_passes is_name_byte b name h))

pub name_bytes : (name : List ℕ) → IsName name → list_all is_name_byte name ≡ true
name_bytes name h = bytes_of name (recursion_from_All (λ b. b ≢ 10) name h.no_line_feed) (recursion_from_All (λ b. b ≢ 32) name h.no_space)

pub is_name : (name : List ℕ) → 0 < length name → list_all is_name_byte name ≡ true → IsName name
is_name name some h = record {
  some = some;
  no_line_feed = All-from_recursion (λ b. b ≢ 10) name (all_of (λ b. b ≢ 10) no_feed name h);
  no_space = All-from_recursion (λ b. b ≢ 32) name (all_of (λ b. b ≢ 32) no_space name h);
}

-- the name is what the text begins with, behind the piece, up to a space or the line's end
pub job_there : (text after : List ℕ) (k : ℕ) (name rest : List ℕ) → text ≡ codes "job " ++ after → list_all is_name_byte (take k after) ≡ true → StopsAt is_name_byte (drop k after) → IsJobLine text name rest → (take k after ≡ name) × (drop k after ≡ 10 ∷ rest)
job_there text after k name rest e all ends h =
    let same : after ≡ name ++ (10 ∷ rest) = append_cancel_left (codes "job ") _ _ (sym e ∙ h.text_is ∙ simp append_assoc) in
    front_unique is_name_byte (take k after) (drop k after) name (10 ∷ rest) all ends (name_bytes name h.named) refl (take-append-drop k after ∙ same)

-- a line of a name, as it was read
pub job_read : (text after name rest last : List ℕ) (k : ℕ) → text ≡ codes "job " ++ after → name ≡ take k after → rest ≡ drop k after → list_all is_name_byte (take k after) ≡ true → 0 < length name → rest ≡ 10 ∷ last → IsJobLine text name last
job_read text after name rest last k e front back all some feed = record {
  named = is_name name some (subst (λ xs. list_all is_name_byte xs ≡ true) (sym front) all);
  text_is = e ∙ ap (λ xs. codes "job " ++ xs) (sym (take-append-drop k after) ∙ joined) ∙ sym (append_assoc {A = ℕ} (codes "job ") name (10 ∷ last));
}
  where
    joined : take k after ++ drop k after ≡ name ++ (10 ∷ last)
    joined = cc
