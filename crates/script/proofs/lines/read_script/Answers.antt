use Rattle.std.proofs.Common.{◌≤◌, rules, arith}
use Rattle.std.specs.Iterator.Adapters.{enumerate_count}
use Rattle.script.proofs.Rising.{rises_higher, rises_more}
use Rattle.script.proofs.lines.read_script.Goals as goal

pub loop-before-preserved-in-Ok-None : goal.loop-before-preserved-in-Ok-None
loop-before-preserved-in-Ok-None c =
    let le : enumerate_count c.loop-before.before-iterator ≤ enumerate_count c.next.new.self = omega (arith, c.in-Some.ensures.steps.2) in
    (search rules, search rules, rises_higher _ _ _ _ c.loop-before.invariant.2 le)

pub loop-before-preserved : goal.loop-before-preserved
loop-before-preserved c =
    (search rules, search rules, rw c.in_ok-push.ensures.items (rises_more _ _ _ _ _ c.loop-before.invariant.2 (omega (arith, c.in-Some.ensures.steps.1)) (omega (arith, c.in-Some.ensures.steps.1, c.in-Some.ensures.steps.2))))
