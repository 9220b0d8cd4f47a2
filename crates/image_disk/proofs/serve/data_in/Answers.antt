use Rattle.std.proofs.Common.{sym, ap, ◌∙◌}
use Rattle.std.specs.Int.NonZero.{non_zero_u32_get}
use Rattle.ata.specs.Commands.{gives, fetches, read, obeys}
use Rattle.disk.specs.Orders.{meant}
use Rattle.disk.specs.Quiet.{quiet}
use Rattle.disk.proofs.Loads.{bare_fetches}
use Rattle.disk.proofs.Performs.{perform_dark, perform_lit}
use Rattle.image_disk.specs.declared.span.Span.{Span}
use Rattle.image_disk.specs.Held.{state_in}
use Rattle.image_disk.proofs.serve.data_in.Goals as goal

pub returns-then-not-has_power : goal.returns-then-not-has_power
returns-then-not-has_power g c =
    let s = state_in g.D.ImageDisk.MOST (g.D.ImageDisk.held c.args.disk.now) in
    (quiet, c.ignore.ensures c.args.into.now ∙ perform_dark quiet s c.args.task (fetches c.args.into.now) (sym c.has_power.ensures ∙ c.if-not-has_power.true))

pub returns-in-Read : goal.returns-in-Read
returns-in-Read g c =
    let most = g.D.ImageDisk.MOST in
    let s = state_in most (g.D.ImageDisk.held c.args.disk.now) in (
      quiet,
      perform_lit quiet s c.args.task (fetches c.args.into.now) (read (non_zero_u32_get c.in-Read.count))
          (gives c.read.result (state_in most (g.D.ImageDisk.held c.read.new.disk)) c.read.new.into) (sym c.has_power.ensures ∙ c.if-not-has_power.false) c.in-Read.ensures.is
          (c.read.ensures ∙ ap (λ (x : Span). obeys quiet s x.block (fetches c.args.into.now) (read x.count)) c.span.ensures),
    )

pub returns-in_default : goal.returns-in_default
returns-in_default g c =
    let most = g.D.ImageDisk.MOST in
    let s = state_in most (g.D.ImageDisk.held c.args.disk.now) in (
      quiet,
      perform_lit quiet s c.args.task (fetches c.args.into.now) (meant c.order.result)
          (gives c.without_data.result (state_in most (g.D.ImageDisk.held c.without_data.new.disk)) c.args.into.now) (sym c.has_power.ensures ∙ c.if-not-has_power.false) c.order.ensures.is
          (c.without_data.ensures (fetches c.args.into.now) (bare_fetches c.args.into.now c.order.result c.in_default.not-Read)),
    )
