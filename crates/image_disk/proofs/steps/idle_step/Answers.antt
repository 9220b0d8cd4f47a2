use Rattle.image_disk.proofs.Taking.{idles}
use Rattle.image_disk.proofs.steps.idle_step.Goals as goal

pub returns-clause-stepped : goal.returns-clause-stepped
returns-clause-stepped g c =
    idles (g.D.ImageDisk.held c.args.disk.now) (g.D.ImageDisk.held c.take_power.new.self) c.take_power.result c.take_power.ensures.had c.take_power.ensures.after
