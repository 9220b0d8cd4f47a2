use Rattle.ata.proofs.Levels.{flush_settles}
use Rattle.ata.proofs.laws.flush_settles.Goals as goal

pub returns : goal.returns
returns c = flush_settles
