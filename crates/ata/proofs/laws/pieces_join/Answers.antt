use Rattle.std.proofs.Common.{length}
use Rattle.ata.proofs.Joins.{joined, steps_join}
use Rattle.ata.proofs.laws.pieces_join.Goals as goal

pub returns : goal.returns
returns c xs ys p q = (joined (length xs) p q, λ m. steps_join xs ys p q m)
