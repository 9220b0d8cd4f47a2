use Rattle.std.proofs.Common.{rules, refl}
use Rattle.transfer.proofs.Sayings.{said_plain}
use Rattle.transfer.proofs.conversation.Conversation.order.Goals as goal

pub returns-clause-said : goal.returns-clause-said
returns-clause-said g c b =
    said_plain g.D.Drive.does c.args.task _ _ _ (search rules) refl c.hear.ensures.bytes c.hear.ensures.commands b
