use Rattle.std.proofs.Common.{rules}
use Rattle.transfer.proofs.writing.write.Goals as goal

pub returns : goal.returns
returns g c b = let h = c.write-verdict.ensures b in let s = c.new-talk.ensures in search rules
