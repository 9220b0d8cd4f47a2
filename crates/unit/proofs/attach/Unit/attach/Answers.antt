use Rattle.unit.specs.Attached.{Identified}
use Rattle.unit.proofs.Identified.{identified_knows}
use Rattle.unit.proofs.attach.Unit.attach.Goals as goal

pub returns : goal.returns
returns g c =
    let after = c.words_in-answer.new.self in
    let sent : Identified g.D.Drive.does c.args.drive after c.first-phase.result =
    record { answer = c.words_in-answer.result; words = c.words_in-answer.new.into; sent = rw c.task.ensures at c.words_in-answer.ensures; begins = c.first-phase.ensures } in
    record {
      sent = sent;
      remembers = identified_knows g.D.Drive.does g.D.Drive.meaning g.met.D.Drive.formed g.met.D.Drive.agrees c.args.drive after c.first-phase.result sent;
    }
