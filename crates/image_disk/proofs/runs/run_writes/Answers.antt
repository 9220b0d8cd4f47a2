use Rattle.std.proofs.Common.{◌≡◌, ℕ, ◌+◌, ◌-◌, ◌*◌, [], take, drop, sym, refl, ap, ◌∙◌, arith, rules, Ok}
use Rattle.ata.specs.Machine.{End, write_step, bytes, step, ends}
use Rattle.ata.specs.Commands.{writes, blocks}
use Rattle.disk.specs.Quiet.{still}
use Rattle.disk.proofs.Runs.{reached_more, reached_end, reached_all}
use Rattle.disk.proofs.Transfers.{length_writes, get_or_writes}
use Rattle.image_disk.specs.Held.{machine_in}
use Rattle.image_disk.proofs.Keeps.{kept_on}
use Rattle.image_disk.proofs.runs.run_writes.Goals as goal

pub loop-i-preserved : goal.loop-i-preserved
loop-i-preserved g c =
    let t = c.args.through in
    let b = c.args.span.block in
    let n = c.args.span.count in
    let i = c.loop-i.i in
    let xs = c.args.from.now in
    let h = g.D.ImageDisk.held c.args.disk.now in
    let j = g.D.ImageDisk.held c.loop-i.disk in
    let m = g.D.ImageDisk.held c.write_step.new.disk in
    let k : 512 ≡ 512 * i + 512 - 512 * i = omega arith in (
      reached_more (writes t b (blocks n xs)) (machine_in h) i [] (machine_in j) (write_step t (b + i) (bytes (take 512 (drop (512 * i) xs)))) [] (machine_in m)
          c.loop-i.invariant.0 (omega (arith, length_writes t b n xs)) (get_or_writes t b n xs i c.loop-i-test.true)
          (ap (λ (z : ℕ). step still (write_step t (b + i) (bytes (take z (drop (512 * i) xs)))) (machine_in j)) k ∙ c.in_ok-write_step.ensures.stepped),
      kept_on h j m c.loop-i.invariant.1 c.write_step.ensures.kept,
    )

pub returns-in_err-write_step : goal.returns-in_err-write_step
returns-in_err-write_step g c =
    let t = c.args.through in
    let b = c.args.span.block in
    let n = c.args.span.count in
    let i = c.loop-i.i in
    let xs = c.args.from.now in
    let h = g.D.ImageDisk.held c.args.disk.now in
    let j = g.D.ImageDisk.held c.loop-i.disk in
    let m = g.D.ImageDisk.held c.write_step.new.disk in
    let k : 512 ≡ 512 * i + 512 - 512 * i = omega arith in
    let z = c.from_residual.result in
    let r : z ≡ c.write_step.result = search rules in
    let w : ◌≡◌ {A = End} z (Ok tt) → ⊥ = λ e. search rules in
    record {
      ran =
          reached_end (writes t b (blocks n xs)) (machine_in h) i [] (machine_in j) (write_step t (b + i) (bytes (take 512 (drop (512 * i) xs)))) z (machine_in m)
          c.loop-i.invariant.0 (omega (arith, length_writes t b n xs)) (get_or_writes t b n xs i c.loop-i-test.true)
          (ap (λ (y : ℕ). step still (write_step t (b + i) (bytes (take y (drop (512 * i) xs)))) (machine_in j)) k ∙ c.write_step.ensures.stepped ∙ ap (λ (y : End). ends y [] (machine_in m)) (sym r)) w;
      kept = kept_on h j m c.loop-i.invariant.1 c.write_step.ensures.kept;
    }

pub returns-clause-ran : goal.returns-clause-ran
returns-clause-ran g c =
    let t = c.args.through in
    let b = c.args.span.block in
    let n = c.args.span.count in
    let xs = c.args.from.now in
    reached_all (writes t b (blocks n xs)) (machine_in (g.D.ImageDisk.held c.args.disk.now)) c.loop-i.i [] (machine_in (g.D.ImageDisk.held c.loop-i.disk)) c.loop-i.invariant.0 (omega (arith, length_writes t b n xs))
