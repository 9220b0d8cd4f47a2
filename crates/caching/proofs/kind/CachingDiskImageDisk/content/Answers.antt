use Rattle.std.proofs.Common.{◌≡◌, length, sym, subst, arith}
use Rattle.std.specs.Option.{MatchOption}
use Rattle.ata.specs.Machine.{Content, unreadable, bytes}
use Rattle.disk.proofs.Blocks.{block_at}
use Rattle.caching.specs.Meaning.{image_of}
use Rattle.caching.proofs.kind.CachingDiskImageDisk.content.Goals as goal

pub returns : goal.returns
returns c =
    let d = c.args.self.now in
    subst (λ (z : Content). MatchOption c.content_at.result (z ≡ unreadable) (λ content. (z ≡ bytes content.now) × (length content.now ≡ 512)))
    (sym (block_at 1026 513 d.blocks (image_of d) c.as_slice.result.now c.args.block _ c.as_slice.ensures.value c.requires (omega arith)))
    c.content_at.ensures
