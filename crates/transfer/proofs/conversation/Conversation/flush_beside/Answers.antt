use Rattle.std.proofs.Common.{sym}
use Rattle.transfer.proofs.Cuts.{flush_some}
use Rattle.transfer.proofs.conversation.Conversation.flush_beside.Goals as goal

pub returns-clause-said : goal.returns-clause-said
returns-clause-said g c b =
    rw (flush_some c.args.width c.args.wanted c.args.count c.if-not-wanted.false c.if-count-eq0.false, sym c.flush_task.ensures) (c.order.ensures.said b)
