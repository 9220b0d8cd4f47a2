use Rattle.std.proofs.Common.{sym}
use Rattle.disk.proofs.Images.{length_contents}
use Rattle.plain.specs.Meaning.{image_of}
use Rattle.plain.proofs.plain_disk.PlainDisk.blocks.Goals as goal

pub returns : goal.returns
returns c = sym (length_contents 513 0 c.args.self.now.blocks (image_of c.args.self.now))
