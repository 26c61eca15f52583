use Rattle.std.proofs.Common.{◌≡◌, ◌-◌, ◌<◌, suc, length, arith, sym, ◌∙◌, ap}
use Rattle.hop_records.specs.Ends.{start_of}
use Rattle.hop_records.proofs.EndsLemmas.{start_of-zero, start_of-suc}
use Rattle.hop_records.proofs.ends.start_at.Goals as goal

pub returns-then-k-eq0 : goal.returns-then-k-eq0
returns-then-k-eq0 c = rw c.if-k-eq0.true (sym (start_of-zero 0 c.args.ends.now))

pub returns-else-k-eq0 : goal.returns-else-k-eq0
returns-else-k-eq0 c =
    let before : c.args.k - 1 < length c.args.ends.now = omega arith in
    let same : suc (c.args.k - 1) ≡ c.args.k = omega arith in
    sym (start_of-suc 0 c.args.ends.now (c.args.k - 1) before) ∙ ap (start_of 0 c.args.ends.now) same
