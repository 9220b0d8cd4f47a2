use Rattle.std.proofs.Common.{sym, ◌∙◌}
use Rattle.ata.specs.Commands.{gives, fetches_words, identify}
use Rattle.disk.specs.Orders.{meant}
use Rattle.disk.specs.Quiet.{quiet}
use Rattle.disk.proofs.Loads.{bare_words}
use Rattle.disk.proofs.Performs.{perform_dark, perform_lit}
use Rattle.image_disk.specs.Held.{state_in}
use Rattle.image_disk.proofs.serve.words_in.Goals as goal

pub returns-then-not-has_power : goal.returns-then-not-has_power
returns-then-not-has_power g c =
    let s = state_in g.D.ImageDisk.MOST (g.D.ImageDisk.held c.args.disk.now) in
    (quiet, c.ignore.ensures c.args.into.now ∙ perform_dark quiet s c.args.task (fetches_words c.args.into.now) (sym c.has_power.ensures ∙ c.if-not-has_power.true))

pub returns-in-Identify : goal.returns-in-Identify
returns-in-Identify g c =
    let most = g.D.ImageDisk.MOST in
    let s = state_in most (g.D.ImageDisk.held c.args.disk.now) in (
      quiet,
      perform_lit quiet s c.args.task (fetches_words c.args.into.now) identify
          (gives c.identify.result (state_in most (g.D.ImageDisk.held c.identify.new.disk)) c.identify.new.into) (sym c.has_power.ensures ∙ c.if-not-has_power.false) c.in-Identify.ensures.is (c.identify.ensures c.args.task.block),
    )

pub returns-in_default : goal.returns-in_default
returns-in_default g c =
    let most = g.D.ImageDisk.MOST in
    let s = state_in most (g.D.ImageDisk.held c.args.disk.now) in (
      quiet,
      perform_lit quiet s c.args.task (fetches_words c.args.into.now) (meant c.order.result)
          (gives c.without_data.result (state_in most (g.D.ImageDisk.held c.without_data.new.disk)) c.args.into.now) (sym c.has_power.ensures ∙ c.if-not-has_power.false) c.order.ensures.is
          (c.without_data.ensures (fetches_words c.args.into.now) (bare_words c.args.into.now c.order.result c.in_default.not-Identify)),
    )
