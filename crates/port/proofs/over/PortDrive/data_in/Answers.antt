use Rattle.std.proofs.Common.{sym, refl, ◌∙◌}
use Rattle.ata.specs.Commands.{fetches}
use Rattle.port.proofs.Behind.{agrees_behind, agrees_stopped}
use Rattle.port.proofs.over.PortDrive.data_in.Goals as goal

pub returns-then-stops : goal.returns-then-stops
returns-then-stops g c =
    agrees_stopped c.args.self.now.limit (g.D.Drive.meaning c.args.self.now.inner) c.args.task (fetches c.args.into.now) c.args.into.now refl (sym c.stops.ensures ∙ c.if-stops.true)

pub returns : goal.returns
returns g c =
    agrees_behind c.args.self.now.limit _ (g.D.Drive.meaning c.args.self.now.inner) (g.D.Drive.meaning c.data_in.new.self) c.args.task (fetches c.args.into.now) c.data_in.new.into c.data_in.result refl
    (sym c.stops.ensures ∙ c.if-stops.false)
    (g.met.D.Drive.agrees c.args.self.now.inner _ c.data_in.new.self c.data_in.ensures)
