use Rattle.std.proofs.Common.{◌≡◌, ℕ, ◌+◌, ◌*◌, List, length, set, vec_items, ap, ◌∙◌, arith}
use Rattle.std.specs.Vec.{with_items}
use Rattle.std.proofs.lemmas.List.{with_items_is}
use Rattle.ata.specs.Machine.{Store, bytes}
use Rattle.disk.specs.Cells.{with_cell, contents}
use Rattle.disk.proofs.Blocks.{cell_written}
use Rattle.disk.proofs.Images.{contents_write}
use Rattle.plain.specs.Meaning.{claims_of, image_of}
use Rattle.plain.proofs.Stores.{store_written}
use Rattle.plain.proofs.kind.PlainDiskImageDisk.write_block.Goals as goal

pub returns : goal.returns
returns c =
    let d = c.args.self.now in
    let b = c.args.block in
    let xs = c.args.data.now in
    let slice = c.as_mut_slice.result.now in
    let new = c.write_cell.new.image in
    let same = c.as_mut_slice.ensures.value in
    let is : vec_items (with_items d.image new) ≡ new = with_items_is d.image new (omega arith) in
    let at : 513 * b ≡ 513 * b + 0 = omega arith in
    let one = cell_written slice new xs (513 * b) c.write_cell.result (omega (arith, ap (λ (ys : List ℕ). length ys) same)) c.requires.sized c.write_cell.ensures.was c.write_cell.ensures.content in
    let e : contents 513 0 d.blocks (vec_items (with_items d.image new)) ≡ set (contents 513 0 d.blocks (image_of d)) b (bytes xs) =
    ap (λ (z : List ℕ). contents 513 0 d.blocks z) (is ∙ one ∙ (λ i. with_cell (same i) (at i) xs))
    ∙ contents_write 513 0 d.blocks (image_of d) xs b c.requires.within (omega arith) (omega arith) c.requires.sized in
    ap (λ (s : Store). record { claims = claims_of d.blocks; store = s; power = d.power }) (store_written d.blocks (image_of d) (vec_items (with_items d.image new)) c.args._through b xs e)
