use Rattle.std.proofs.Common.{◌≡◌, length, sym, subst, arith}
use Rattle.std.specs.Option.{MatchOption}
use Rattle.ata.specs.Machine.{Content, unreadable, bytes}
use Rattle.disk.proofs.Blocks.{block_at}
use Rattle.plain.specs.Meaning.{image_of}
use Rattle.plain.proofs.kind.PlainDiskImageDisk.content.Goals as goal

pub returns : goal.returns
returns c =
    let d = c.args.self.now in
    subst (λ (z : Content). MatchOption c.content_at.result (z ≡ unreadable) (λ content. (z ≡ bytes content.now) × (length content.now ≡ 512)))
    (sym (block_at 513 0 d.blocks (image_of d) c.as_slice.result.now c.args.block _ c.as_slice.ensures.value c.requires (omega arith)))
    c.content_at.ensures
