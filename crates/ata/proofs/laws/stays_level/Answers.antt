use Rattle.ata.proofs.Levels.{steps_level}
use Rattle.ata.proofs.laws.stays_level.Goals as goal

pub returns : goal.returns
returns c = steps_level
