use Rattle.std.proofs.Common.{◌≡◌, ◌<◌, List, [], ◌∷◌, length, refl, ap, ◌∙◌, subst, arith}
use Rattle.std.proofs.lemmas.List.{get_or_default}
use Rattle.hop_base.specs.declared.value.Pair.{Pair}
use Rattle.hop_laws.specs.Partition.{partition_of}
use Rattle.hop_base.specs.Fields.{pair_of}
use Rattle.hop_laws.specs.Stands.{StandsWith}
use Rattle.hop_laws.proofs.TakenLaws.{taken_one}
use Rattle.hop_fold.proofs.lists.ListsPairSink.take.Goals as goal

-- the pair joined the list of its partition
pub returns : goal.returns
returns g c =
    let reduce = (g.J.Job.meaning c.args.self.now.job.now).reduced in
    let lists : List (List Pair) = c.args.self.now.lists.items in
    let q = c.partition-p.result in
    let pair : Pair = pair_of c.args.key.now c.args.number c.args.text.now in
    let r : c.len.result ≡ length lists = omega arith in
    let below : q < length lists = omega (arith, c.partition-p.ensures.below) in (
      refl,
      taken_one reduce lists _ c.add.new.self q pair (record { key = c.requires.short_key; value = record { number = omega arith; text = c.requires.short_text } }) below
          (c.partition-p.ensures.value ∙ ap (partition_of c.args.key.now) r) refl
          (subst (λ (ps : List Pair). StandsWith reduce ps (pair ∷ []) c.add.new.self) (c.index_mut.ensures.value ∙ get_or_default lists q _ [] below) c.in_ok-add.ensures),
    )
