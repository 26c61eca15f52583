use Rattle.std.proofs.Common.{◌≡◌, ◌+◌, arith, refl}
use Rattle.std.specs.Prelude.{min}
use Rattle.hop_spill.specs.Spelling.{spill_in}
use Rattle.hop_mapper.specs.Next.{split_len}
use Rattle.hop_mapper.proofs.Made.{is_spill}
use Rattle.hop_mapper.proofs.Offering.{spill_value}
use Rattle.hop_mapper.proofs.OnlySpilled.{only_same}
use Rattle.hop_mapper.proofs.state.State.keep.Goals as goal

pub put-requires-clause-value : goal.put-requires-clause-value
put-requires-clause-value g c =
    let R = g.N.RunName in
    spill_value R.job R.records R.settings c.args.part c.in-Ok.runs c.in-Ok.ensures.runs (spill_in c.in-Ok-spill_of.spill) c.in-Ok-spill_of.ensures

pub put-requires-clause-spill : goal.put-requires-clause-spill
put-requires-clause-spill g c =
    let R = g.N.RunName in let limits = c.known.ensures in let next = c.requires.next in let run = c.self.invariant.of_run.run in
    let a = limits.splits in let b = limits.len in let d = limits.few_spill in let e = limits.attempts in
    let s = next.split in let t = next.attempt in let m = next.some in
    let u : c.args.part.to ≡ min (c.args.part.from + R.settings.spill) (split_len R.records R.settings c.args.part.split) = next.to in
    is_spill R.job R.records R.settings.split R.settings.reducers run.lawful run.short c.args.part (record {
      split = omega arith;
      attempt = omega arith;
      from = omega arith;
      some = m;
      to = omega arith;
      few = omega arith;
    }) limits.some_reducers limits.few_reducers

pub returns-in_default-clause-only : goal.returns-in_default-clause-only
returns-in_default-clause-only g c = let held = (g.V.Folder.seen c.args.self.now.vault.folder).held in only_same held held refl

pub returns-in_default-spill_of-clause-only : goal.returns-in_default-spill_of-clause-only
returns-in_default-spill_of-clause-only g c = let held = (g.V.Folder.seen c.args.self.now.vault.folder).held in only_same held held refl
