use Rattle.std.proofs.Common.{sym, ap, ◌∙◌}
use Rattle.ata.specs.Commands.{obeys}
use Rattle.disk.specs.declared.order.Order.{Order}
use Rattle.disk.specs.Orders.{meant}
use Rattle.disk.specs.Quiet.{quiet}
use Rattle.image_disk.specs.Held.{state_in}
use Rattle.image_disk.proofs.commands.without_data.Goals as goal

pub returns-in-Flush : goal.returns-in-Flush
returns-in-Flush g c =
    let s = state_in g.D.ImageDisk.MOST (g.D.ImageDisk.held c.args.disk.now) in
    λ l w. c.flush.ensures c.args.block l ∙ ap (λ (x : Order). obeys quiet s c.args.block l (meant x)) (sym c.in-Flush.is)

pub returns-in-Switch : goal.returns-in-Switch
returns-in-Switch g c =
    let s = state_in g.D.ImageDisk.MOST (g.D.ImageDisk.held c.args.disk.now) in
    λ l w. c.switch.ensures c.args.block l ∙ ap (λ (x : Order). obeys quiet s c.args.block l (meant x)) (sym c.in-Switch.is)

pub returns-in-Idle : goal.returns-in-Idle
returns-in-Idle g c =
    let s = state_in g.D.ImageDisk.MOST (g.D.ImageDisk.held c.args.disk.now) in
    λ l w. c.idle.ensures c.args.block l ∙ ap (λ (x : Order). obeys quiet s c.args.block l (meant x)) (sym c.in-Idle.is)
