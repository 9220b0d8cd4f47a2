use Rattle.std.proofs.Common.{[], sym, ap, ◌∙◌}
use Rattle.std.specs.Int.NonZero.{non_zero_u32_get}
use Rattle.ata.specs.Commands.{gives, sends, write, obeys}
use Rattle.disk.specs.Orders.{meant}
use Rattle.disk.specs.Quiet.{quiet}
use Rattle.disk.proofs.Loads.{bare_sends}
use Rattle.disk.proofs.Performs.{perform_dark, perform_lit}
use Rattle.image_disk.specs.declared.span.Span.{Span}
use Rattle.image_disk.specs.Held.{state_in}
use Rattle.image_disk.proofs.serve.data_out.Goals as goal

pub returns-then-not-has_power : goal.returns-then-not-has_power
returns-then-not-has_power g c =
    let s = state_in g.D.ImageDisk.MOST (g.D.ImageDisk.held c.args.disk.now) in
    (quiet, c.ignore.ensures [] ∙ perform_dark quiet s c.args.task (sends c.args.from.now) (sym c.has_power.ensures ∙ c.if-not-has_power.true))

pub returns-in-Write : goal.returns-in-Write
returns-in-Write g c =
    let most = g.D.ImageDisk.MOST in
    let s = state_in most (g.D.ImageDisk.held c.args.disk.now) in (
      quiet,
      perform_lit quiet s c.args.task (sends c.args.from.now) (write c.in-Write.through (non_zero_u32_get c.in-Write.count))
          (gives c.write.result (state_in most (g.D.ImageDisk.held c.write.new.disk)) []) (sym c.has_power.ensures ∙ c.if-not-has_power.false) c.in-Write.ensures.is
          (c.write.ensures ∙ ap (λ (x : Span). obeys quiet s x.block (sends c.args.from.now) (write c.in-Write.through x.count)) c.span.ensures),
    )

pub returns-in_default : goal.returns-in_default
returns-in_default g c =
    let most = g.D.ImageDisk.MOST in
    let s = state_in most (g.D.ImageDisk.held c.args.disk.now) in (
      quiet,
      perform_lit quiet s c.args.task (sends c.args.from.now) (meant c.order.result)
          (gives c.without_data.result (state_in most (g.D.ImageDisk.held c.without_data.new.disk)) []) (sym c.has_power.ensures ∙ c.if-not-has_power.false) c.order.ensures.is
          (c.without_data.ensures (sends c.args.from.now) (bare_sends c.args.from.now c.order.result c.in_default.not-Write)),
    )
