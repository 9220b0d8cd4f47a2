use Rattle.std.proofs.Common.{◌/◌, Bool, length, subst, rules}
use Rattle.transfer.specs.Asks.{flush_beside}
use Rattle.transfer.specs.Said.{Said}
use Rattle.transfer.proofs.Sayings.{said_then, said_passed}
use Rattle.transfer.proofs.conversation.Conversation.write.Goals as goal

pub returns-in_err-transfer : goal.returns-in_err-transfer
returns-in_err-transfer g c b =
    let h = rw (c.goes_through.ensures, c.new-size.ensures, c.most.ensures) at (c.transfer.ensures.said b) in
    said_passed g.D.Drive.does _ _ _ _ _ _ _ _ _ c.in_err-transfer.was c.from_residual.ensures.1 h

pub returns : goal.returns
returns g c b =
    let h = rw (c.goes_through.ensures, c.new-size.ensures, c.most.ensures) at (c.transfer.ensures.said b) in
    said_then g.D.Drive.does _ _ _ _ _ _ _ _ _ _ _ c.in_ok-transfer.was h
    (subst (λ (v : Bool). Said g.D.Drive.does (flush_beside c.args.width v (length c.args.data.now / 512)) c.transfer.new.self b c.flush_beside.new.self b c.flush_beside.result) (search rules)
    (c.flush_beside.ensures.said b))
