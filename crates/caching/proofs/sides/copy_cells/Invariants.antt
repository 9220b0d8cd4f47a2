use Rattle.std.proofs.Common.{◌≡◌, take}
use Rattle.disk.specs.Cells.{contents}
use Rattle.caching.proofs.sides.copy_cells.Given as goal

abbrev pub invariant-loop-i : goal.invariant-loop-i
invariant-loop-i l =
    (contents 1026 l.from l.blocks l.image ≡ contents 1026 l.from l.blocks l.initial.image)
    × (take l.i (contents 1026 l.to l.blocks l.image) ≡ take l.i (contents 1026 l.from l.blocks l.initial.image))
