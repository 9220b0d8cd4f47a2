use Rattle.std.proofs.Common.{◌+◌, ◌≤◌, length}
use Rattle.std.specs.Slice.Iter.{split_inclusive_rest}
use Rattle.session.proofs.run.Session.run.Given as goal

abbrev pub invariant-loop-part : goal.invariant-loop-part
invariant-loop-part l =
    l.self.counts.acts + length (split_inclusive_rest l.part-iterator) ≤ l.initial.self.counts.acts + length l.lines
