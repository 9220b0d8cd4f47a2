use Rattle.std.proofs.Common.{ℕ, ◌/◌, List, length, ap, subst, rules}
use Rattle.transfer.specs.Tasks.{piece}
use Rattle.transfer.specs.Asks.{read_ask, pieces}
use Rattle.transfer.specs.Said.{Said, Outline}
use Rattle.transfer.proofs.Sayings.{said_then, said_passed}
use Rattle.transfer.proofs.conversation.Conversation.read.Goals as goal

pub returns-in_err-flush_beside : goal.returns-in_err-flush_beside
returns-in_err-flush_beside g c =
    said_passed g.D.Drive.does _ _ _ _ _ _ _ _ _ c.in_err-flush_beside.was c.from_residual.ensures.1 (c.flush_beside.ensures.said c.args.data.now)

pub returns : goal.returns
returns g c =
    let h = rw (c.new-size.ensures, c.most.ensures) at (c.transfer.ensures.said c.args.data.now) in
    let same = ap (λ (l : Outline). l.borrow) c.transfer.ensures.outline in
    said_then g.D.Drive.does _ _ _ _ _ _ _ _ _ _ _ c.in_ok-flush_beside.was (c.flush_beside.ensures.said c.args.data.now)
    (subst (λ (z : List ℕ). Said g.D.Drive.does (pieces (read_ask c.args.width) (piece c.args.width (g.D.Drive.meaning c.args.self.now.drive.now).most) c.args.start.value (length c.args.data.now / 512) 0) c.flush_beside.new.self c.args.data.now c.transfer.new.self z c.transfer.result) (search rules) h)
