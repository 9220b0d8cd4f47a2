use Rattle.std.proofs.Common.{[], sym, ap, ◌∙◌, rules, Err}
use Rattle.ata.specs.declared.answer.Stop.{Stop}
use Rattle.ata.specs.Machine.{verify_step, ends}
use Rattle.image_disk.specs.Held.{machine_in}
use Rattle.image_disk.proofs.Taking.{goes_on, stops, block_verified, block_missed}
use Rattle.image_disk.proofs.steps.verify_step.Goals as goal

pub returns-in_err-take_power-clause-stepped : goal.returns-in_err-take_power-clause-stepped
returns-in_err-take_power-clause-stepped g c =
    let s = stops (g.D.ImageDisk.held c.args.disk.now) (g.D.ImageDisk.held c.take_power.new.self) (verify_step c.args.block) in
    search rules

pub returns-clause-stepped : goal.returns-clause-stepped
returns-clause-stepped g c =
    let h = g.D.ImageDisk.held c.args.disk.now in
    let k = g.D.ImageDisk.held c.take_power.new.self in
    goes_on h k (verify_step c.args.block) (sym c.take_power.ensures.had ∙ c.in_ok-take_power.was) c.take_power.ensures.after
    ∙ block_verified k c.args.block c.in-Some.field-0.now c.in-Some.ensures.0

pub returns-in_default-clause-stepped : goal.returns-in_default-clause-stepped
returns-in_default-clause-stepped g c =
    let h = g.D.ImageDisk.held c.args.disk.now in
    let k = g.D.ImageDisk.held c.take_power.new.self in
    let m = g.D.ImageDisk.held c.unreadable.new.disk in
    goes_on h k (verify_step c.args.block) (sym c.take_power.ensures.had ∙ c.in_ok-take_power.was) c.take_power.ensures.after
    ∙ block_missed k m c.args.block c.in_default.ensures c.unreadable.ensures.counted
    ∙ ap (λ (s : Stop). ends (Err s) [] (machine_in m)) (sym c.unreadable.ensures.stops)
