-- Flat pairs: entries beside an arena, which holds the bytes that don't stand in an entry.
use Rattle.std.specs.Prelude.{◌≡◌, ℕ, ◌+◌, ◌<◌, ◌≤◌, ◌==◌, List, [], length, take, drop, map, nat_le, if◌then◌else◌}
use Rattle.std.specs.List.{AllByRecursion}
use Rattle.std.specs.declared.cmp.Ordering.{Ordering}
use Rattle.std.specs.Ordering.{nat_cmp, ordering_then}
use Rattle.hop_base.specs.declared.value.Pair.{Pair}
use Rattle.hop_base.specs.Order.{key_cmp, IsValidPair}
use Rattle.hop_laws.specs.declared.entry.Entry.{Entry}
use Rattle.hop_laws.specs.Heads.{head_of, short_key}
use Rattle.hop_base.specs.Fields.{pair_of}

-- the part of the key that stands in the arena
abbrev pub stored_key : List ℕ → Entry → List ℕ
stored_key arena e = take e.stored_len (drop e.at arena)

-- the text, which stands behind it
abbrev pub text_in : List ℕ → Entry → List ℕ
text_in arena e = take e.text_len (drop e.stored_len (drop e.at arena))

-- the key: a short one stands in the head
abbrev pub key_in : List ℕ → Entry → List ℕ
key_in arena e = if e.stored_len == 0 then short_key e.head else stored_key arena e

-- the pair that an entry stands for
abbrev pub pair_in : List ℕ → Entry → Pair
pair_in arena e = pair_of (key_in arena e) e.number (text_in arena e)

-- the pairs of entries
abbrev pub pairs_in : List ℕ → List Entry → List Pair
pairs_in arena entries = map (pair_in arena) entries

-- how many bytes of a key of n bytes stand in the arena
abbrev pub stored_of : ℕ → ℕ
stored_of n = if nat_le n 15 then 0 else n

-- those bytes
abbrev pub stored_bytes : List ℕ → List ℕ
stored_bytes key = if nat_le (length key) 15 then [] else key

-- an entry of a pair
pub record IsEntry (arena : List ℕ) (e : Entry) : Type 0 where
  pub within : e.at + (e.stored_len + e.text_len) ≤ length arena
  pub head : e.head ≡ head_of (key_in arena e)
  pub stored : e.stored_len ≡ stored_of (length (key_in arena e))
  pub bytes : AllByRecursion (λ b. b < 256) (key_in arena e)
  pub valid : IsValidPair (pair_in arena e)

-- the order of the values of entries
abbrev pub value_cmp : List ℕ → Entry → Entry → Ordering
value_cmp arena x y = ordering_then (nat_cmp x.number y.number) (key_cmp (text_in arena x) (text_in arena y))

-- the order of entries: by head, stored key and value
abbrev pub entry_cmp : List ℕ → Entry → Entry → Ordering
entry_cmp arena x y =
    ordering_then (nat_cmp x.head.first y.head.first)
    (ordering_then (nat_cmp x.head.second y.head.second)
    (ordering_then (key_cmp (stored_key arena x) (stored_key arena y)) (value_cmp arena x y)))
