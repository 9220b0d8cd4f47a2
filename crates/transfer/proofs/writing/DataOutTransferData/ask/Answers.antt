use Rattle.std.proofs.Common.{◌≡◌, ◌-◌, ◌*◌, [], refl, arith}
use Rattle.transfer.specs.Asks.{write_ask}
use Rattle.transfer.proofs.Talks.{asked, held_one}
use Rattle.transfer.proofs.writing.DataOutTransferData.ask.Goals as goal

pub returns-clause-said : goal.returns-clause-said
returns-clause-said g c b =
    let wide : c.bytes-part.result.end - c.bytes-part.result.start ≡ 512 * c.args.piece.count = omega arith in
    record {
      drive = refl;
      held = held_one g.D.Drive.does (write_ask c.args.self.now.width c.args.self.now.through c.args.self.now.bytes.now c.args.piece.block c.args.piece.count c.args.piece.at) _ _ b [] [] b _ _ _
          (asked g.D.Drive.does _ _ _ _ _ _ _ _ _ c.hear.ensures.judged (rw (c.write_task-task.ensures, wide, c.bytes-part.ensures.start) at c.data_out-answer.ensures) (omega arith) (omega arith)) refl refl;
    }
