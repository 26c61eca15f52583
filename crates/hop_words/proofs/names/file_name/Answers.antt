use Rattle.std.specs.Str.{IsUtf8}
use Rattle.std.proofs.Common.{subst, sym}
use Rattle.hop_words.proofs.NumberLaws.{name_is_text}
use Rattle.hop_words.proofs.names.file_name.Goals as goal

pub unreachable-requires : goal.unreachable-requires
unreachable-requires c =
    let cases = rw c.in-Err.is at c.from_utf8.ensures.cases in
    absurd (cases.0 (subst IsUtf8 (sym c.as_slice.ensures) (name_is_text c.args.name.now c.requires)))
