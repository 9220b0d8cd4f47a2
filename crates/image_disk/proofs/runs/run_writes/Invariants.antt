use Rattle.std.proofs.Common.{[]}
use Rattle.ata.specs.Commands.{writes, blocks}
use Rattle.disk.specs.Quiet.{Reached}
use Rattle.image_disk.specs.Held.{machine_in, Kept}
use Rattle.image_disk.proofs.runs.run_writes.Given as goal

abbrev pub invariant-loop-i : goal.invariant-loop-i
invariant-loop-i g l =
    Reached (writes l.through l.span.block (blocks l.span.count l.from)) (machine_in (g.D.ImageDisk.held l.initial.disk)) l.i [] (machine_in (g.D.ImageDisk.held l.disk))
    × Kept (g.D.ImageDisk.held l.initial.disk) (g.D.ImageDisk.held l.disk)
