use Rattle.std.proofs.Common.{sym}
use Rattle.disk.proofs.Images.{length_contents}
use Rattle.caching.specs.Meaning.{image_of}
use Rattle.caching.proofs.caching_disk.CachingDisk.blocks.Goals as goal

pub returns : goal.returns
returns c = sym (length_contents 1026 513 c.args.self.now.blocks (image_of c.args.self.now))
