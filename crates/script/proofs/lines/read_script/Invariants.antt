use Rattle.std.specs.Iterator.Adapters.{enumerate_count}
use Rattle.script.specs.Lines.{RisesTo}
use Rattle.script.proofs.lines.read_script.Given as goal

abbrev pub invariant-loop-before : goal.invariant-loop-before
invariant-loop-before l =
    (goal.iterator-loop-before).can_next l.before-iterator
    × (goal.iterator-loop-before).is_finite l.before-iterator
    × RisesTo 0 l.lines.items (enumerate_count l.before-iterator)
