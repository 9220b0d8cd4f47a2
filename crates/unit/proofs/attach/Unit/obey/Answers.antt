use Rattle.std.proofs.Common.{rules}
use Rattle.unit.proofs.attach.Unit.obey.Goals as goal

pub returns-in-Ready-Ok-Read-clause-came : goal.returns-in-Ready-Ok-Read-clause-came
returns-in-Ready-Ok-Read-clause-came g c = let k = c.read.ensures c.args.out.now in search rules
