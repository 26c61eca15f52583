-- A map from texts to bytes, seen as files by name.
use Rattle.std.specs.Prelude.{ℕ, List, map, Vec, String, string_bytes}
use Rattle.std.specs.BTreeMap.{BTreeMap}
use Rattle.std.specs.FinMap as files
use Rattle.hop_base.specs.Files.{Files}

module _ {A B : Type 0} where
  abbrev pub file_of : String A × Vec ℕ B → List ℕ × List ℕ
  file_of e = (string_bytes e.0, e.1.items)

  -- the files that the map holds
  abbrev pub files_of : BTreeMap (String A) (Vec ℕ B) → Files
  files_of m = files.from_entries (map file_of m.entries)
