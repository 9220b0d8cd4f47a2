use Rattle.std.proofs.Common.{ap, ◌∙◌}
use Rattle.disk.specs.declared.power.Power.{Power}
use Rattle.disk.specs.Claimed.{words_for}
use Rattle.disk.specs.Powers.{lit_of, state_with}
use Rattle.disk.proofs.Steps.{returned_is}
use Rattle.plain.specs.Meaning.{claims_of, store_of, image_of}
use Rattle.plain.proofs.Stores.{none_switched_on}
use Rattle.plain.proofs.drive.PlainDiskDrive.back.Goals as goal

pub returns : goal.returns
returns c =
    let d = c.args.self.now in
    let s = store_of d.blocks (image_of d) in
    ap (λ (p : Power). state_with (words_for (claims_of d.blocks)) 256 s p) c.restore.ensures
    ∙ returned_is (words_for (claims_of d.blocks)) 256 s s d.power (none_switched_on d.blocks (image_of d) (lit_of d.power.supply))
