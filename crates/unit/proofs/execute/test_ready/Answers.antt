use Rattle.std.proofs.Common.{[], Ok, refl, ap}
use Rattle.unit.proofs.execute.test_ready.Goals as goal

pub returns : goal.returns
returns g c b = ([], c.order-verdict.result.0, c.order-verdict.result.1, rw c.task.ensures at (c.order-verdict.ensures []), refl, ap Ok c.from_drive.ensures)
