use Rattle.std.proofs.Common.{◌+◌, ◌≤◌}
use Rattle.session.proofs.run.Session.serve.Given as goal

abbrev pub invariant-loop-line : goal.invariant-loop-line
invariant-loop-line g l = l.self.counts.acts ≤ l.initial.self.counts.acts + l.line-index
