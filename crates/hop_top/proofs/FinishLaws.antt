-- What a run that came to its end puts and prints, in the words of what it was given.
use Rattle.std.proofs.Common.{◌≡◌, List, [], ◌∷◌, length, map, refl, ap, ◌∙◌}
use Rattle.std.specs.Prelude.{reverse}
use Rattle.std.specs.List.{range_with_len}
use Rattle.std.proofs.lemmas.List.{length-map}
use Rattle.std.proofs.lemmas.List.FromFn.{length-range_with_len}
use Rattle.hop_event.specs.declared.event.Event.{Event}
use Rattle.hop_records.specs.Records.{BookValue, len_of, lens_of, splits_of}

module _ {H : Type 0} (events : H → List Event) where
  -- the histories in their order, read off in one step or in two
  pub in-order : (hs : List H) → map (λ h. reverse (events h)) hs ≡ map reverse (map events hs)
  in-order [] = refl
  in-order (h ∷ hs) = ap (λ l. reverse (events h) ∷ l) (in-order hs)

-- a book has as many record counts as splits
pub lens-count : (book : BookValue) → length (lens_of book) ≡ splits_of book
lens-count book = length-map (range_with_len 0 (splits_of book)) (len_of book) ∙ length-range_with_len 0 (splits_of book)
