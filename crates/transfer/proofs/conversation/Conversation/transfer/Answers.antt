use Rattle.std.proofs.Common.{◌+◌, ◌-◌, ◌*◌, ◌/◌, Ok, sym, ◌∙◌, arith}
use Rattle.transfer.proofs.Cuts.{pieces_none}
use Rattle.transfer.proofs.Sayings.{said_none, said_more, said_last, said_stop}
use Rattle.transfer.proofs.conversation.Conversation.transfer.Goals as goal

pub returns-in_err-ask-clause-said : goal.returns-in_err-ask-clause-said
returns-in_err-ask-clause-said g c b =
    let first = rw (c.loop-done.invariant.outline, c.value.ensures.is, c.min.ensures) at (c.ask.ensures.said b) in
    rw (sym c.len-count.ensures) (c.loop-done.invariant.said b _ _ _
    (said_stop g.D.Drive.does _ _ _ _ _ _ _ _ _ _ c.args.size.some (omega arith) first _ _ c.in_err-ask.was c.from_residual.ensures.1))

pub returns-in_ok-ask-clause-said : goal.returns-in_ok-ask-clause-said
returns-in_ok-ask-clause-said g c b =
    let first = rw (c.loop-done.invariant.outline, c.value.ensures.is, c.min.ensures) at (c.ask.ensures.said b) in
    rw (sym c.len-count.ensures) (c.loop-done.invariant.said b _ _ _
    (said_last g.D.Drive.does _ _ _ _ _ _ _ _ _ _ c.args.size.some (omega arith) first _ c.in_ok-ask.was (omega arith)))

pub loop-done-preserved : goal.loop-done-preserved
loop-done-preserved g c =
    record {
      outline = c.ask.ensures.outline ∙ c.loop-done.invariant.outline;
      commands = omega arith;
      bytes = omega arith;
      said = λ b e end r h.
          let first = rw (c.loop-done.invariant.outline, c.value.ensures.is, c.min.ensures) at (c.ask.ensures.said b) in
          c.loop-done.invariant.said b e end r
          (said_more g.D.Drive.does _ _ _ _ _ _ _ _ _ _ c.args.size.some (omega arith) first _ _ _ _ _ _ _ c.in_ok-ask.was (omega arith) (omega arith) (omega arith) h);
    }

pub returns-clause-said : goal.returns-clause-said
returns-clause-said g c b =
    let none = pieces_none (g.T.TransferData.outline c.args.data.now).asks c.args.size.blocks (c.args.start.value + c.loop-done.done) (c.len-count.result / 512 - c.loop-done.done) (512 * c.loop-done.done) (omega arith) in
    rw (sym c.len-count.ensures) (c.loop-done.invariant.said b c.loop-done.self (g.T.TransferData.data_in c.loop-done.data b) (Ok tt) (rw none (said_none g.D.Drive.does c.loop-done.self (g.T.TransferData.data_in c.loop-done.data b))))
