use Rattle.std.proofs.Common.{◌≡◌, take}
use Rattle.host.specs.Images.{marked}
use Rattle.host.proofs.image.mark.Given as goal

abbrev pub invariant-loop-block : goal.invariant-loop-block
invariant-loop-block l = l.image ≡ marked l.size l.at l.initial.image (take l.block-index l.bad)
