use Rattle.std.proofs.Common.{◌≡◌, ℕ, List, subst}
use Rattle.std.specs.Prelude.{IfOk}
use Rattle.hop_cut.proofs.TextLaws.{write_snapshot}
use Rattle.hop_cut.proofs.cut.cut_text.Goals as goal

pub returns-clause-snapshot : goal.returns-clause-snapshot
returns-clause-snapshot g c = λ records n h.
    subst (λ (text : List ℕ). IfOk c.written.result (λ t. t ≡ text)) (write_snapshot (g.J.Job.meaning c.args.job.now) records n c.args.p c.args.r c.args.lens.now c.args.cut.now h) c.written.ensures
