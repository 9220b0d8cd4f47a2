use Rattle.std.proofs.Common.{rules}
use Rattle.transfer.proofs.orders.order.Goals as goal

pub returns : goal.returns
returns g c b = let h = c.order-verdict.ensures.said b in let s = c.new-talk.ensures in search rules
