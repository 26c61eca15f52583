-- A job, as the meanings of its calls.
use Rattle.std.specs.Prelude.{ℕ, List, []}
use Rattle.hop_base.specs.declared.value.Val.{Val}
use Rattle.hop_base.specs.declared.value.Pair.{Pair}

pub record Meaning : Type 0 where
  -- its name
  pub name : List ℕ
  -- the pairs that map emits for a record
  pub emits : List ℕ → List Pair
  -- what the values of a key, in order, are combined to
  pub combined : List ℕ → List Val → List Val
  -- the text that reduce gives for a key and its values, in order
  pub reduced : List ℕ → List Val → List ℕ

-- a job that emits nothing; it has no name, and so it isn't lawful
abbrev pub no_job : Meaning
no_job = record { name = []; emits = λ line. []; combined = λ key vals. vals; reduced = λ key vals. [] }
