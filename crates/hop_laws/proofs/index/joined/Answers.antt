use Rattle.hop_laws.proofs.Joining.{told_swapped}
use Rattle.hop_laws.proofs.index.joined.Goals as goal

pub returns : goal.returns
returns g c = told_swapped (g.J.Job.meaning c.args.job.now).combined c.args.a c.args.b c.joined-2.result c.joined-2.ensures
