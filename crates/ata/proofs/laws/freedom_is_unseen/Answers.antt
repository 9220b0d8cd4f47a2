use Rattle.ata.proofs.Unseen.{freedom_unseen}
use Rattle.ata.proofs.laws.freedom_is_unseen.Goals as goal

pub returns : goal.returns
returns c = freedom_unseen
