-- A lane of one thread, which is its own two ends.
use Rattle.std.specs.Prelude.{ℕ, List, ◌++◌}
use Rattle.hop_inner.specs.Lines.{Key, Line}

-- what was sent is what was taken and then what it holds
pub record Lane (T : Type 0) : Type 0 where
  pub name : List ℕ
  pub key : Key
  pub taken : List T
  pub held : List T
  pub fulls : ℕ
  pub nones : ℕ

-- each end is told all
abbrev pub line_of : {T : Type 0} → Lane T → Line T
line_of l = record {
  name = l.name;
  key = l.key;
  out = record { sent = l.taken ++ l.held; fulls = l.fulls };
  into = record { taken = l.taken; nones = l.nones };
  told_taken = l.taken;
  told_sent = l.taken ++ l.held;
}
