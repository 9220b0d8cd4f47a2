use Rattle.std.proofs.Common.{◌≡◌, ◌-◌, ◌*◌, refl, ap, ◌∙◌, arith}
use Rattle.transfer.specs.Asks.{read_ask, read_gains}
use Rattle.transfer.proofs.Talks.{asked, held_one}
use Rattle.transfer.proofs.reading.DataInTransferData.ask.Goals as goal

pub returns-clause-said : goal.returns-clause-said
returns-clause-said g c b =
    let part = c.bytes-part in
    let wide : part.result.end - part.result.start ≡ 512 * c.args.piece.count = omega arith in
    let gains = c.gained.ensures.is ∙ ap (read_gains c.args.piece.block c.args.piece.count) c.hear-verdict.ensures.judged in
    record {
      drive = refl;
      held = held_one g.D.Drive.does (read_ask c.args.self.now.width c.args.piece.block c.args.piece.count c.args.piece.at) _ _ c.args.self.now.bytes.now _ _ _ _ _ _
          (asked g.D.Drive.does _ _ _ _ _ _ _ _ _ c.hear-verdict.ensures.judged (rw c.read_task-task.ensures at c.data_in-answer.ensures) (omega (arith, gains)) (omega arith))
          (rw (wide, part.ensures.start)) (rw (wide, part.ensures.start));
    }
