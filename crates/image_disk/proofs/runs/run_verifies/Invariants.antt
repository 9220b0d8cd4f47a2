use Rattle.std.proofs.Common.{[]}
use Rattle.ata.specs.Commands.{verifies}
use Rattle.disk.specs.Quiet.{Reached}
use Rattle.image_disk.specs.Held.{machine_in, Kept}
use Rattle.image_disk.proofs.runs.run_verifies.Given as goal

abbrev pub invariant-loop-i : goal.invariant-loop-i
invariant-loop-i g l =
    Reached (verifies l.span.block l.span.count) (machine_in (g.D.ImageDisk.held l.initial.disk)) l.i [] (machine_in (g.D.ImageDisk.held l.disk))
    × Kept (g.D.ImageDisk.held l.initial.disk) (g.D.ImageDisk.held l.disk)
