use Rattle.std.proofs.Common.{Ok, refl, ap}
use Rattle.unit.proofs.Ranges.{not_past, whole_blocks}
use Rattle.unit.proofs.known.Facts.read.Goals as goal

pub returns-in-Some : goal.returns-in-Some
returns-in-Some g c out =
    let within = c.in-Some.ensures in
    let said = rw within.is at (rw (whole_blocks c.args.extent.count c.args.into.now c.requires) at c.read-verdict.ensures) in
    rw (not_past c.args.self.now c.args.extent c.in-Some.start.value within)
    (c.read-verdict.new.data, c.read-verdict.result.0, c.read-verdict.result.1, said, refl, ap Ok c.from_drive.ensures)
