use Rattle.hop_cut.proofs.HeadLaws.{read_more, read_end}
use Rattle.hop_cut.proofs.head.split_lines.Goals as goal

pub returns-in-Some-clause-found : goal.returns-in-Some-clause-found
returns-in-Some-clause-found c = read_end c.args.text.now c.loop-rest.i c.loop-rest.declared c.loop-rest.rest.now c.in-Some.rest.now c.loop-rest.invariant c.in-Some.ensures

pub loop-rest-preserved : goal.loop-rest-preserved
loop-rest-preserved c = rw (c.in_default-push.ensures.ok, c.declared_part.ensures) (read_more c.args.text.now c.loop-rest.i c.loop-rest.declared c.loop-rest.rest.now c.in-Some-next_split.line c.in-Some-next_split.later.now c.loop-rest.invariant c.in-Some-next_split.ensures.0 c.in-Some-next_split.ensures.1)
