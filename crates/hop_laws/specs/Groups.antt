-- Pairs by their keys.
use Rattle.std.specs.Prelude.{◌≡◌, ℕ, ◌<◌, ◌≤◌, Bool, List, [], ◌∷◌, length, take, drop, map, filter, if◌then◌else◌}
use Rattle.std.specs.List.{flat_map, list_any}
use Rattle.std.specs.Str.{bytes_eq}
use Rattle.std.specs.declared.cmp.Ordering.TheVariants.{Less}
use Rattle.std.specs.Ordering.{is_gt}
use Rattle.hop_base.specs.declared.value.Val.{Val}
use Rattle.hop_base.specs.declared.value.Pair.{Pair}
use Rattle.hop_base.specs.Order.{key_cmp, val_cmp}
use Rattle.hop_base.specs.Sorted.{ord}

-- whether a pair has the key
abbrev pub has_key : List ℕ → List Pair → Bool
has_key k ps = list_any (λ p. bytes_eq k p.key) ps

-- the values of the pairs that have the key
abbrev pub values_of : List ℕ → List Pair → List Val
values_of k ps = map (λ p. p.val) (filter (λ p. bytes_eq k p.key) ps)

-- ascending keys with one more, unless it is among them
abbrev pub add_key : List ℕ → List (List ℕ) → List (List ℕ)
add_key k [] = k ∷ []
add_key k (l ∷ ls) = if bytes_eq k l then l ∷ ls else if is_gt (key_cmp k l) then l ∷ add_key k ls else k ∷ l ∷ ls

-- the distinct keys, ascending
abbrev pub keys_of : List Pair → List (List ℕ)
keys_of [] = []
keys_of (p ∷ ps) = add_key p.key (keys_of ps)

-- what a function gives for each distinct key, ascending, and its values in order, joined
abbrev pub for_each_key : {X : Type 0} → (List ℕ → List Val → List X) → List Pair → List X
for_each_key f ps = flat_map (λ k. f k (ord val_cmp (values_of k ps))) (keys_of ps)

-- what reduce gives for all pairs
abbrev pub red : (List ℕ → List Val → List ℕ) → List Pair → List ℕ
red reduce ps = for_each_key reduce ps

-- the key of the first pair
abbrev pub first_key : List Pair → List ℕ
first_key [] = []
first_key (p ∷ ps) = p.key

-- each pair has the key
abbrev pub AllHaveKey : List ℕ → List Pair → Type 0
AllHaveKey k [] = Unit {0}
AllHaveKey k (p ∷ ps) = (p.key ≡ k) × AllHaveKey k ps

-- each pair has a greater key
abbrev pub AllAboveKey : List ℕ → List Pair → Type 0
AllAboveKey k [] = Unit {0}
AllAboveKey k (p ∷ ps) = (key_cmp k p.key ≡ Less) × AllAboveKey k ps

-- the first n pairs are those of the least key
pub record IsFirstGroup (ps : List Pair) (n : ℕ) : Type 0 where
  pub some : 0 < n
  pub within : n ≤ length ps
  pub together : AllHaveKey (first_key ps) (take n ps)
  pub above : AllAboveKey (first_key ps) (drop n ps)
