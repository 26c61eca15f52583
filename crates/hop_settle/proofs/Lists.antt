-- Places of lists.
use Rattle.std.proofs.Common.{◌≡◌, ℕ, List, map, ap, ◌∙◌, Some}
use Rattle.std.specs.Option.{option_map}
use Rattle.std.specs.List.{slice_get}
use Rattle.std.proofs.lemmas.Option.{slice_get-map}

module _ {A B : Type 0} (f : A → B) where
  -- what stands at a place, mapped
  pub map-at : (xs : List A) (k : ℕ) (x : A) → slice_get xs k ≡ Some x → slice_get (map f xs) k ≡ Some (f x)
  map-at xs k x h = slice_get-map f xs k ∙ ap (option_map f) h
