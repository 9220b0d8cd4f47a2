use Rattle.std.proofs.Common.{sym, ap, ◌∙◌}
use Rattle.ata.specs.Commands.{taken}
use Rattle.disk.specs.declared.words.Claims.{Claims}
use Rattle.disk.specs.Claimed.{words_for}
use Rattle.disk.specs.Orders.{switches}
use Rattle.disk.proofs.Decoded.{switching_claims}
use Rattle.image_disk.proofs.order.order.Goals as goal

pub returns-clause-cached : goal.returns-clause-cached
returns-clause-cached g c =
    let t = c.args.task in
    let h = g.D.ImageDisk.held c.args.disk.now in
    λ e.
    switching_claims h.claims t.command t.feature t.count
    (sym (ap switches (c.order_of.ensures ∙ ap (λ (x : Claims). taken (words_for x) t.command t.feature t.count) c.claims.ensures)) ∙ e)
