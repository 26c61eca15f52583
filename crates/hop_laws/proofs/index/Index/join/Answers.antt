use Rattle.std.proofs.Common.{[], arith}
use Rattle.hop_base.specs.Fields.{pair_of}
use Rattle.hop_laws.proofs.Joining.{joined, to_combine, to_reduce}
use Rattle.hop_laws.proofs.NumberLaws.{within}
use Rattle.hop_laws.proofs.index.Index.join.Goals as goal

pub set_number-requires : goal.set_number-requires
set_number-requires g c = within c.args.pairs.now c.in-Some.place (pair_of c.args.key.now c.in-Some-number_at.there []) c.in-Some-number_at.ensures

pub returns-in-Some-joined-clause-combined : goal.returns-in-Some-joined-clause-combined
returns-in-Some-joined-clause-combined g c _ =
    let combine = (g.J.Job.meaning c.args.job.now).combined in
    joined combine c.args.pairs.now c.set_number.new.self c.args.key.now c.in-Some.place c.in-Some-number_at.there c.args.number c.in-Some-joined.both
    (λ valid. to_combine combine c.args.key.now c.in-Some-number_at.there c.args.number c.in-Some-joined.both c.in-Some-joined.ensures)
    c.set_number.ensures.valid c.requires (omega arith) (omega arith) c.in-Some-number_at.ensures c.set_number.ensures.exact

pub returns-in-Some-joined-clause-reduced : goal.returns-in-Some-joined-clause-reduced
returns-in-Some-joined-clause-reduced g c _ =
    let meaning = g.J.Job.meaning c.args.job.now in
    joined meaning.reduced c.args.pairs.now c.set_number.new.self c.args.key.now c.in-Some.place c.in-Some-number_at.there c.args.number c.in-Some-joined.both
    (to_reduce meaning.combined meaning.reduced c.args.key.now c.in-Some-number_at.there c.args.number c.in-Some-joined.both (g.met.J.Job.lawful c.args.job.now).reduces_alike c.in-Some-joined.ensures)
    c.set_number.ensures.valid c.requires (omega arith) (omega arith) c.in-Some-number_at.ensures c.set_number.ensures.exact
