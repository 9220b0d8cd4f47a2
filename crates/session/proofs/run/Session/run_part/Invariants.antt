use Rattle.std.proofs.Common.{◌+◌, ◌≤◌}
use Rattle.session.proofs.run.Session.run_part.Given as goal

abbrev pub invariant-loop-at : goal.invariant-loop-at
invariant-loop-at l = l.self.counts.acts ≤ l.initial.self.counts.acts + l.at
