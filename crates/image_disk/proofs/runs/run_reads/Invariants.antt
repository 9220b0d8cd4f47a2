use Rattle.std.proofs.Common.{◌≡◌, ◌*◌, take, drop}
use Rattle.ata.specs.Commands.{reads}
use Rattle.disk.specs.Quiet.{Reached}
use Rattle.image_disk.specs.Held.{machine_in, Kept}
use Rattle.image_disk.proofs.runs.run_reads.Given as goal

abbrev pub invariant-loop-i : goal.invariant-loop-i
invariant-loop-i g l =
    Reached (reads l.span.block l.span.count) (machine_in (g.D.ImageDisk.held l.initial.disk)) l.i (take (512 * l.i) l.into) (machine_in (g.D.ImageDisk.held l.disk))
    × (drop (512 * l.i) l.into ≡ drop (512 * l.i) l.initial.into)
    × Kept (g.D.ImageDisk.held l.initial.disk) (g.D.ImageDisk.held l.disk)
