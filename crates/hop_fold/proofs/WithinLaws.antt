-- Records that are left out because they are long.
use Rattle.std.proofs.Common.{◌≡◌, ℕ, ◌≤◌, Bool, true, false, cond, List, [], ◌∷◌, ◌++◌, length, refl, sym, ap, ◌∙◌, append_assoc, le-leb}
use Rattle.std.specs.Prelude.{All, filter}
use Rattle.std.proofs.lemmas.Bool.{false≢true}
use Rattle.std.proofs.lemmas.List.Elements.{All-head, All-tail}
use Rattle.hop_fold.specs.Within.{is_within}

kept_at : (b : Bool) (line : List ℕ) (kept lines : List (List ℕ)) → b ≡ true → kept ≡ lines → cond b (line ∷ kept) kept ≡ line ∷ lines
kept_at true line kept lines is e = ap (λ ls. line ∷ ls) e
kept_at false line kept lines is e = absurd (false≢true is)

-- none is left out where none is long
pub none_is_long : (n : ℕ) (lines : List (List ℕ)) → All (λ line. length line ≤ n) lines → filter (is_within n) lines ≡ lines
none_is_long n [] h = refl
none_is_long n (line ∷ lines) h =
    kept_at (is_within n line) line (filter (is_within n) lines) lines
    (le-leb (length line) n (All-head (λ line. length line ≤ n) line lines h))
    (none_is_long n lines (All-tail (λ line. length line ≤ n) line lines h))

-- a first record that is read
pub one_is_read : (n : ℕ) (done lines : List (List ℕ)) (line : List ℕ) → is_within n line ≡ true → (done ++ line ∷ []) ++ filter (is_within n) lines ≡ done ++ filter (is_within n) (line ∷ lines)
one_is_read n done lines line is =
    append_assoc done (line ∷ []) (filter (is_within n) lines)
    ∙ ap (λ b. done ++ cond b (line ∷ filter (is_within n) lines) (filter (is_within n) lines)) (sym is)
