-- The job that keeps the best.
use Rattle.std.specs.Prelude.{ℕ, List, [], ◌++◌, map, take, decimal, codes}
use Rattle.std.specs.declared.cmp.Ordering.{Ordering}
use Rattle.std.specs.List.{flat_map}
use Rattle.std.specs.Ordering.{nat_cmp, ordering_then}
use Rattle.hop_base.specs.declared.value.Val.{Val}
use Rattle.hop_base.specs.declared.value.Pair.{Pair}
use Rattle.hop_base.specs.Meaning.{Meaning}
use Rattle.hop_base.specs.Order.{key_cmp, val_cmp}
use Rattle.hop_base.specs.Sorted.{ord}
use Rattle.hop_jobs.specs.Adding.{number_line}
use Rattle.hop_jobs.specs.Numbered.{numbered_emits}

-- the greater number first, and then the smaller text
abbrev pub best_cmp : Val → Val → Ordering
best_cmp a b = ordering_then (nat_cmp b.n a.n) (key_cmp a.s b.s)

-- the k best, best first
abbrev pub best_of : ℕ → List Val → List Val
best_of k vs = take k (ord best_cmp vs)

-- the k best, in value order
abbrev pub top_combined : ℕ → List ℕ → List Val → List Val
top_combined k key vs = ord val_cmp (best_of k vs)

-- text, a tab, the number and a line feed
abbrev pub value_line : Val → List ℕ
value_line v = number_line v.s v.n

-- the line of each of the k best, best first
abbrev pub top_reduced : ℕ → List ℕ → List Val → List ℕ
top_reduced k key vs = flat_map value_line (best_of k vs)

-- the pair's number and key as a value, under the empty key
abbrev pub under_no_key : Pair → Pair
under_no_key p = record { key = []; val = record { n = p.val.n; s = p.key } }

-- the record's number with its key as the text
abbrev pub line_emits : List ℕ → List Pair
line_emits line = map under_no_key (numbered_emits line)

-- the k best by number
abbrev pub top_meaning : ℕ → Meaning
top_meaning k = record { name = codes "top:" ++ decimal k; emits = line_emits; combined = top_combined k; reduced = top_reduced k }
