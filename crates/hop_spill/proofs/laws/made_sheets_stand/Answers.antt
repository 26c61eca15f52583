use Rattle.std.proofs.Common.{List, [], sym, subst, arith}
use Rattle.std.proofs.lemmas.List.FromFn.{get_or-map-range_with_len}
use Rattle.std.proofs.lemmas.List.Sorted.{IsPermutation-refl}
use Rattle.hop_base.specs.declared.value.Pair.{Pair}
use Rattle.hop_laws.specs.Blocking.{part_pairs}
use Rattle.hop_laws.specs.Stands.{StandsFor}
use Rattle.hop_laws.proofs.Emitted.{valid_part}
use Rattle.hop_laws.proofs.StandsLaws.{stands_combined, stands_itself}
use Rattle.hop_spill.specs.SpillFiles.{sheet_made}
use Rattle.hop_spill.proofs.laws.made_sheets_stand.Goals as goal

pub returns : goal.returns
returns g c = λ records n p r part short within.
    let meaning = g.J.Job.meaning c.args.job.now in
    let laws = g.met.J.Job.lawful c.args.job.now in
    let pairs : List Pair = part_pairs meaning records n p r part in
    let made = sheet_made meaning records n r part in
    let valid = valid_part meaning laws records short n p r part in
    let stands = stands_combined meaning.combined meaning.reduced pairs (made p) pairs laws.combines_well laws.reduces_alike valid (IsPermutation-refl (made p)) (stands_itself meaning.reduced pairs) in
    subst (λ (sheet : List Pair). StandsFor meaning.reduced sheet pairs) (sym (get_or-map-range_with_len made 0 r p p [] within (omega arith))) stands
