use Rattle.std.proofs.Common.{◌≡◌, ◌∷◌, codes, map, take}
use Rattle.hop_words.specs.Clap.{AllText}
use Rattle.hop_words.proofs.parse.texts.Given as goal

abbrev pub invariant-loop-k : goal.invariant-loop-k
invariant-loop-k l = record {
  told : map (λ t. t.now) l.texts.items ≡ codes "hop" ∷ take l.k l.words;
  utf8 : AllText (take l.k l.words);
}
