use Rattle.std.proofs.Common.{[], sym, ap, ◌∙◌, rules, Ok}
use Rattle.ata.specs.Machine.{write_step, bytes, ends}
use Rattle.image_disk.specs.Held.{Held, machine_in}
use Rattle.image_disk.proofs.Taking.{goes_on, stops, lit_with_power}
use Rattle.image_disk.proofs.steps.write_step.Goals as goal

pub returns-in_err-take_power-clause-stepped : goal.returns-in_err-take_power-clause-stepped
returns-in_err-take_power-clause-stepped g c =
    let h = g.D.ImageDisk.held c.args.disk.now in
    let k = g.D.ImageDisk.held c.take_power.new.self in
    let s = stops h k (write_step c.args.through c.args.block (bytes c.args.data.now)) in
    search rules

pub returns-clause-stepped : goal.returns-clause-stepped
returns-clause-stepped g c =
    let h = g.D.ImageDisk.held c.args.disk.now in
    let k = g.D.ImageDisk.held c.take_power.new.self in
    goes_on h k (write_step c.args.through c.args.block (bytes c.args.data.now)) (sym c.take_power.ensures.had ∙ c.in_ok-take_power.was) c.take_power.ensures.after
    ∙ ap (λ (j : Held). ends (Ok tt) [] (machine_in j)) (sym c.write_block.ensures)

pub write_block-requires-clause-lit : goal.write_block-requires-clause-lit
write_block-requires-clause-lit g c =
    lit_with_power (g.D.ImageDisk.held c.args.disk.now) (g.D.ImageDisk.held c.take_power.new.self) (sym c.take_power.ensures.had ∙ c.in_ok-take_power.was) c.take_power.ensures.after
