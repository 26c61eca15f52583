-- What contracts see of a folder and of a sink.
use Rattle.std.specs.Prelude.{ℕ, List, ◌++◌, Option, option_map}
use Rattle.std.specs.FinMap as map
use Rattle.hop_base.specs.Files.{Files}

-- what a folder holds, where it tells it, and its counts of faults in gets and in puts
pub record FolderView : Type 0 where
  pub held : Option Files
  pub gets : ℕ
  pub puts : ℕ

-- the bytes that a sink took, where it tells them, and its count of faults
pub record SinkView : Type 0 where
  pub taken : Option (List ℕ)
  pub faults : ℕ

-- the same files, with this one put
abbrev pub with_file : Option Files → List ℕ → List ℕ → Option Files
with_file held name bytes = option_map (λ files. map.insert files name bytes) held

-- the same bytes, with these behind them
abbrev pub appended : Option (List ℕ) → List ℕ → Option (List ℕ)
appended taken bytes = option_map (λ before. before ++ bytes) taken
