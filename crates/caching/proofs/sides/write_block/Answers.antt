use Rattle.std.proofs.Common.{◌≡◌, ◌+◌, ◌*◌, ◌≤◌, Bool, cond, List, length, set, sym, ap, ◌∙◌, arith}
use Rattle.ata.specs.Machine.{Content, bytes}
use Rattle.caching.specs.Sides.{media}
use Rattle.disk.proofs.Blocks.{cell_written}
use Rattle.caching.proofs.Writes.{face_faces, face_media, medium_media, medium_faces}
use Rattle.caching.proofs.sides.write_block.Goals as goal

pub returns-then-deep : goal.returns-then-deep
returns-then-deep c =
    let image = c.args.image.now in
    let xs = c.args.data.now in
    let b = c.args.block in
    let one = c.write_cell.new.image in
    let two = c.write_cell-then-deep.new.image in
    let l : 1026 * b + 1026 ≤ length image = omega arith in
    let w : length xs ≡ 512 = omega arith in
    let e = cell_written image one xs (1026 * b + 513) c.write_cell.result (omega arith) w c.write_cell.ensures.was c.write_cell.ensures.content in
    let k : 1026 * b + 1026 ≤ length one = omega arith in
    let f = cell_written one two xs (1026 * b + 0) c.write_cell-then-deep.result (omega arith) w c.write_cell-then-deep.ensures.was c.write_cell-then-deep.ensures.content in
    record {
      face = λ n h. medium_faces n one two xs b k w f ∙ face_faces n image one xs b h l w e;
      medium = λ n h.
          medium_media n one two xs b h k w f ∙ ap (λ (z : List Content). set z b (bytes xs)) (face_media n image one xs b l w e)
          ∙ ap (λ (v : Bool). cond v (set (media n image) b (bytes xs)) (media n image)) (sym c.if-deep.true);
    }

pub returns-else-deep : goal.returns-else-deep
returns-else-deep c =
    let image = c.args.image.now in
    let xs = c.args.data.now in
    let b = c.args.block in
    let one = c.write_cell.new.image in
    let l : 1026 * b + 1026 ≤ length image = omega arith in
    let w : length xs ≡ 512 = omega arith in
    let e = cell_written image one xs (1026 * b + 513) c.write_cell.result (omega arith) w c.write_cell.ensures.was c.write_cell.ensures.content in
    record {
      face = λ n h. face_faces n image one xs b h l w e;
      medium = λ n h.
          face_media n image one xs b l w e
          ∙ ap (λ (v : Bool). cond v (set (media n image) b (bytes xs)) (media n image)) (sym c.if-deep.false);
    }
