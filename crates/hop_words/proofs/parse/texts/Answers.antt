use Rattle.std.proofs.Common.{◌≡◌, ℕ, ◌+◌, List, [], ◌∷◌, ◌++◌, Some, map, take, codes, sym, ap, ◌∙◌, Bor}
use Rattle.std.specs.List.{slice_get}
use Rattle.std.specs.Str.{IsUtf8}
use Rattle.std.proofs.lemmas.List.{map-append, take_more}
use Rattle.std.proofs.lemmas.Option.{get_or_from_slice_get, slice_get_within}
use Rattle.hop_words.specs.Clap.{AllText}
use Rattle.hop_words.proofs.parse.texts.Goals as goal

-- one more of the words
take_one : (words : List (List ℕ)) (k : ℕ) (word : List ℕ) → slice_get words k ≡ Some word → take (k + 1) words ≡ take k words ++ word ∷ []
take_one words k word e = take_more words k word (slice_get_within words k word e) ∙ ap (λ w. take k words ++ w ∷ []) (get_or_from_slice_get words k word word e)

text_more : (words : List (List ℕ)) (word : List ℕ) → AllText words → IsUtf8 word → AllText (words ++ word ∷ [])
text_more [] word all text = (text, tt)
text_more (w ∷ words) word all text = (all.0, text_more words word all.1 text)

pub loop-k-preserved : goal.loop-k-preserved
loop-k-preserved c =
    let more = take_one c.args.words.now c.loop-k.k c.word.result.now c.word.ensures in
    let now : Bor (List ℕ) → List ℕ = λ t. t.now in
    record {
      told = ap (map now) c.in_ok-push-2.ensures.items ∙ map-append now c.loop-k.texts.items (c.word.result ∷ []) ∙ ap (λ ts. ts ++ c.word.result.now ∷ []) c.loop-k.invariant.told ∙ ap (λ ws. codes "hop" ∷ ws) (sym more);
      utf8 = rw more (text_more (take c.loop-k.k c.args.words.now) c.word.result.now c.loop-k.invariant.utf8 c.word.utf8);
    }
