use Rattle.std.proofs.Common.{◌≡◌, ◌+◌, [], ◌∷◌, ◌++◌, length, sym, ap, ◌∙◌, arith, length-append}
use Rattle.std.specs.Prelude.{string_bytes}
use Rattle.std.proofs.lemmas.List.{map-append}
use Rattle.hop_top.specs.Puts.{file_of, files_in, part_files, part_name}
use Rattle.hop_top.proofs.PartLaws.{part_files-push}
use Rattle.hop_top.proofs.block.part_files.Goals as goal

-- one more text under its name
pub loop-bytes-preserved : goal.loop-bytes-preserved
loop-bytes-preserved c =
    let texts = c.loop-bytes.yielded in
    let p : c.loop-bytes.p ≡ 0 + length texts = omega (arith, c.loop-bytes.invariant.counted) in
    record {
      counted = omega (arith, c.loop-bytes.invariant.counted, length-append texts (c.in-Some.bytes ∷ []));
      told =
          ap files_in c.in_ok-push.ensures.items
          ∙ map-append file_of c.loop-bytes.files.items _
          ∙ ap (λ fs. fs ++ (string_bytes c.in_ok-name.name, c.in-Some.bytes) ∷ []) c.loop-bytes.invariant.told
          ∙ ap (λ n. part_files 0 texts ++ (n, c.in-Some.bytes) ∷ []) (c.in_ok-name.ensures ∙ ap part_name p)
          ∙ sym (part_files-push 0 texts c.in-Some.bytes);
    }
