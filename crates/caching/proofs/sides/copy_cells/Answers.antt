use Rattle.std.proofs.Common.{◌≡◌, ◌+◌, ◌*◌, ◌≤◌, length, refl, ◌∙◌, arith}
use Rattle.disk.specs.Copied.{with_copy}
use Rattle.caching.proofs.Turns.{copy_done, from_kept, to_more, all_copied}
use Rattle.caching.proofs.sides.copy_cells.Goals as goal

pub loop-i-init : goal.loop-i-init
loop-i-init c = (refl, refl)

pub loop-i-preserved : goal.loop-i-preserved
loop-i-preserved c =
    let from = c.args.from in
    let to = c.args.to in
    let n = c.args.blocks in
    let i = c.loop-i.i in
    let image = c.loop-i.image in
    let new = c.copy_cell.new.image in
    let s = c.requires.1 in
    let long : 1026 * n ≤ length image = omega arith in
    let p = s.from_fits in
    let q = s.to_fits in
    let e : new ≡ with_copy image (1026 * i + from) (1026 * i + to) =
    copy_done image new (1026 * i + from) (1026 * i + to) c.copy_cell.result (omega arith) (omega arith) c.copy_cell.ensures.was c.copy_cell.ensures.content in (
      from_kept from to n image new i s long c.loop-i-test.true e ∙ c.loop-i.invariant.0,
      to_more from to n c.args.image.now image new i s long c.loop-i-test.true e c.loop-i.invariant.0 c.loop-i.invariant.1,
    )

pub returns : goal.returns
returns c =
    record {
      copied = all_copied c.args.from c.args.to c.args.blocks c.args.image.now c.loop-i.image c.loop-i.i (omega arith) c.loop-i.invariant.1;
      kept = c.loop-i.invariant.0;
    }
