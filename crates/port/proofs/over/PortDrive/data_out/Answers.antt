use Rattle.std.proofs.Common.{[], sym, refl, ◌∙◌}
use Rattle.ata.specs.Commands.{sends}
use Rattle.port.proofs.Behind.{agrees_behind, agrees_stopped}
use Rattle.port.proofs.over.PortDrive.data_out.Goals as goal

pub returns-then-stops : goal.returns-then-stops
returns-then-stops g c =
    agrees_stopped c.args.self.now.limit (g.D.Drive.meaning c.args.self.now.inner) c.args.task (sends c.args.from.now) [] refl (sym c.stops.ensures ∙ c.if-stops.true)

pub returns : goal.returns
returns g c =
    agrees_behind c.args.self.now.limit _ (g.D.Drive.meaning c.args.self.now.inner) (g.D.Drive.meaning c.data_out.new.self) c.args.task (sends c.args.from.now) [] c.data_out.result refl
    (sym c.stops.ensures ∙ c.if-stops.false)
    (g.met.D.Drive.agrees c.args.self.now.inner _ c.data_out.new.self c.data_out.ensures)
