use Rattle.std.proofs.Common.{[], sym, ◌∙◌}
use Rattle.ata.specs.Commands.{gives, nothing}
use Rattle.disk.specs.Orders.{meant}
use Rattle.disk.specs.Quiet.{quiet}
use Rattle.disk.proofs.Loads.{bare_nothing}
use Rattle.disk.proofs.Performs.{perform_dark, perform_lit}
use Rattle.image_disk.specs.Held.{state_in}
use Rattle.image_disk.proofs.serve.no_data.Goals as goal

pub returns-then-not-has_power : goal.returns-then-not-has_power
returns-then-not-has_power g c =
    let s = state_in g.D.ImageDisk.MOST (g.D.ImageDisk.held c.args.disk.now) in
    (quiet, c.ignore.ensures [] ∙ perform_dark quiet s c.args.task nothing (sym c.has_power.ensures ∙ c.if-not-has_power.true))

pub returns : goal.returns
returns g c =
    let most = g.D.ImageDisk.MOST in
    let s = state_in most (g.D.ImageDisk.held c.args.disk.now) in (
      quiet,
      perform_lit quiet s c.args.task nothing (meant c.order-order.result)
          (gives c.without_data.result (state_in most (g.D.ImageDisk.held c.without_data.new.disk)) []) (sym c.has_power.ensures ∙ c.if-not-has_power.false) c.order-order.ensures.is
          (c.without_data.ensures nothing (bare_nothing c.order-order.result)),
    )
