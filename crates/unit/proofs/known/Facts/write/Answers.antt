use Rattle.std.proofs.Common.{[], Ok, refl, ap}
use Rattle.unit.proofs.Ranges.{not_past}
use Rattle.unit.proofs.known.Facts.write.Goals as goal

pub returns-in-Some : goal.returns-in-Some
returns-in-Some g c b =
    let within = c.in-Some.ensures in
    let said = rw within.is at (rw c.force-how.ensures at (c.write-verdict.ensures [])) in
    rw (not_past c.args.self.now c.args.extent c.in-Some.start.value within)
    ([], c.write-verdict.result.0, c.write-verdict.result.1, said, refl, ap Ok c.from_drive.ensures)
