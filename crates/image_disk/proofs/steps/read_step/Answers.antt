use Rattle.std.proofs.Common.{ℕ, List, [], sym, ap, ◌∙◌, rules, Ok, Err}
use Rattle.ata.specs.declared.answer.Stop.{Stop}
use Rattle.ata.specs.Machine.{read_step, ends}
use Rattle.image_disk.specs.Held.{machine_in}
use Rattle.image_disk.proofs.Taking.{goes_on, stops, block_read, block_met}
use Rattle.image_disk.proofs.steps.read_step.Goals as goal

pub returns-in_err-take_power-clause-stepped : goal.returns-in_err-take_power-clause-stepped
returns-in_err-take_power-clause-stepped g c =
    let s = stops (g.D.ImageDisk.held c.args.disk.now) (g.D.ImageDisk.held c.take_power.new.self) (read_step c.args.block) in
    search rules

pub returns-in-Some-clause-stepped : goal.returns-in-Some-clause-stepped
returns-in-Some-clause-stepped g c =
    let h = g.D.ImageDisk.held c.args.disk.now in
    let k = g.D.ImageDisk.held c.take_power.new.self in
    goes_on h k (read_step c.args.block) (sym c.take_power.ensures.had ∙ c.in_ok-take_power.was) c.take_power.ensures.after
    ∙ block_read k c.args.block c.in-Some.content.now c.in-Some.ensures.0
    ∙ ap (λ (ys : List ℕ). ends (Ok tt) ys (machine_in k)) (sym c.copy_from_slice.ensures.after)

pub returns-in-None-clause-stepped : goal.returns-in-None-clause-stepped
returns-in-None-clause-stepped g c =
    let h = g.D.ImageDisk.held c.args.disk.now in
    let k = g.D.ImageDisk.held c.take_power.new.self in
    let m = g.D.ImageDisk.held c.unreadable.new.disk in
    goes_on h k (read_step c.args.block) (sym c.take_power.ensures.had ∙ c.in_ok-take_power.was) c.take_power.ensures.after
    ∙ block_met k m c.args.block c.in-None.ensures c.unreadable.ensures.counted
    ∙ ap (λ (s : Stop). ends (Err s) [] (machine_in m)) (sym c.unreadable.ensures.stops)
