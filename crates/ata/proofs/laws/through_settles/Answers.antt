use Rattle.ata.proofs.Levels.{through_settles}
use Rattle.ata.proofs.laws.through_settles.Goals as goal

pub returns : goal.returns
returns c = through_settles
