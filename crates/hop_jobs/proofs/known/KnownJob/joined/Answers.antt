use Rattle.std.proofs.Common.{sym, subst}
use Rattle.hop_jobs.specs.declared.known.Known.{Known}
use Rattle.hop_jobs.specs.Known.{known_meaning}
use Rattle.hop_laws.specs.Numbers.{JoinsTo}
use Rattle.hop_jobs.proofs.known.KnownJob.joined.Goals as goal

pub returns-in-Wc : goal.returns-in-Wc
returns-in-Wc c = subst (λ (k : Known). JoinsTo (known_meaning k) c.args.a c.args.b c.joined.result) (sym c.in-Wc.is) c.joined.ensures

pub returns-in-Sum : goal.returns-in-Sum
returns-in-Sum c = subst (λ (k : Known). JoinsTo (known_meaning k) c.args.a c.args.b c.joined-in-Sum.result) (sym c.in-Sum.is) c.joined-in-Sum.ensures

pub returns-in-Max : goal.returns-in-Max
returns-in-Max c = subst (λ (k : Known). JoinsTo (known_meaning k) c.args.a c.args.b c.joined-in-Max.result) (sym c.in-Max.is) c.joined-in-Max.ensures

pub returns-in-Top : goal.returns-in-Top
returns-in-Top c = subst (λ (k : Known). JoinsTo (known_meaning k) c.args.a c.args.b c.joined-in-Top.result) (sym c.in-Top.is) c.joined-in-Top.ensures
