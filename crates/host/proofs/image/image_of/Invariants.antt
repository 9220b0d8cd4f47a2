use Rattle.std.proofs.Common.{◌≡◌, ◌*◌, replicate, vec_items, vec_len}
use Rattle.host.specs.Images.{cells_marked}
use Rattle.host.proofs.image.image_of.Given as goal

abbrev pub invariant-loop-cell : goal.invariant-loop-cell
invariant-loop-cell l = record {
  marked : vec_items l.image ≡ cells_marked l.block l.cell (replicate (513 * l.cells * l.blocks) 0) l.bad;
  long : vec_len l.image ≡ 513 * l.cells * l.blocks;
}
