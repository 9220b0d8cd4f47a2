use Rattle.std.proofs.Common.{◌≡◌, ℕ, ◌+◌, ◌-◌, ◌*◌, ◌≤◌, List, ◌++◌, length, take, drop, sym, ap, ◌∙◌, subst, arith, rules, Ok}
use borrow.Rule.Slice.PartMut.{put_mid, put_same}
use Rattle.std.proofs.lemmas.Slice.{take-put_mid}
use Rattle.ata.specs.Machine.{End, read_step, steps, ends}
use Rattle.ata.specs.Commands.{reads}
use Rattle.disk.specs.Quiet.{quiet, Reached}
use Rattle.disk.proofs.Buffers.{over_front, rest_kept, filled}
use Rattle.disk.proofs.Runs.{reached_more, reached_end, reached_all}
use Rattle.disk.proofs.Transfers.{length_reads, get_or_reads}
use Rattle.image_disk.specs.Held.{machine_in, put, Untouched}
use Rattle.image_disk.proofs.Keeps.{kept_on, put_none, untouched_is}
use Rattle.image_disk.proofs.runs.run_reads.Goals as goal

pub loop-i-preserved : goal.loop-i-preserved
loop-i-preserved g c =
    let b = c.args.span.block in
    let n = c.args.span.count in
    let i = c.loop-i.i in
    let h = g.D.ImageDisk.held c.args.disk.now in
    let j = g.D.ImageDisk.held c.loop-i.disk in
    let m = g.D.ImageDisk.held c.read_step.new.disk in
    let out = c.loop-i.into in
    let new = c.read_step.new.into in
    let k = 512 * i + 512 - 512 * i in
    let in-it : 512 * i ≤ length out = omega arith in
    let front : take (512 * (i + 1)) (put_mid (512 * i) k out new) ≡ take (512 * i) out ++ new = take-put_mid (512 * i) k out new (512 * (i + 1)) (omega arith) in-it in (
      subst (λ (y : List ℕ). Reached (reads b n) (machine_in h) (i + 1) y (machine_in m)) (sym front)
          (reached_more (reads b n) (machine_in h) i (take (512 * i) out) (machine_in j) (read_step (b + i)) new (machine_in m)
          c.loop-i.invariant.0 (omega (arith, length_reads b n)) (get_or_reads b n i c.loop-i-test.true) c.in_ok-read_step.ensures.stepped),
      rest_kept i k out c.args.into.now new (omega arith) in-it (omega arith) c.loop-i.invariant.1,
      kept_on h j m c.loop-i.invariant.2 c.read_step.ensures.kept,
    )

pub returns-in_err-read_step : goal.returns-in_err-read_step
returns-in_err-read_step g c =
    let b = c.args.span.block in
    let n = c.args.span.count in
    let i = c.loop-i.i in
    let h = g.D.ImageDisk.held c.args.disk.now in
    let j = g.D.ImageDisk.held c.loop-i.disk in
    let m = g.D.ImageDisk.held c.read_step.new.disk in
    let out = c.loop-i.into in
    let new = c.read_step.new.into in
    let z = c.from_residual.result in
    let r : z ≡ c.read_step.result = search rules in
    let w : ◌≡◌ {A = End} z (Ok tt) → ⊥ = λ e. search rules in
    let k = 512 * i + 512 - 512 * i in
    let front = take (512 * i) out in
    let run = steps quiet (reads b n) (machine_in h) in
    let stepped = c.read_step.ensures.stepped ∙ (λ y. ends (sym r y) (put (sym r y) new) (machine_in m)) ∙ ap (λ (ys : List ℕ). ends z ys (machine_in m)) (put_none z new w) in
    let untouched = subst (λ (y : End). Untouched y (take k (drop (512 * i) out)) new) (sym r) c.read_step.ensures.untouched in
    record {
      ran = filled run z front (machine_in m) c.args.into.now (put_mid (512 * i) k out new)
          (reached_end (reads b n) (machine_in h) i front (machine_in j) (read_step (b + i)) z (machine_in m)
          c.loop-i.invariant.0 (omega (arith, length_reads b n)) (get_or_reads b n i c.loop-i-test.true) stepped w)
          (ap (λ (ys : List ℕ). put_mid (512 * i) k out ys) (untouched_is z _ new w untouched)
          ∙ put_same (512 * i) k out ∙ over_front (512 * i) out c.args.into.now (omega arith) c.loop-i.invariant.1);
      kept = kept_on h j m c.loop-i.invariant.2 c.read_step.ensures.kept;
    }

pub returns-clause-ran : goal.returns-clause-ran
returns-clause-ran g c =
    let b = c.args.span.block in
    let n = c.args.span.count in
    let i = c.loop-i.i in
    let h = g.D.ImageDisk.held c.args.disk.now in
    let j = g.D.ImageDisk.held c.loop-i.disk in
    let out = c.loop-i.into in
    filled (steps quiet (reads b n) (machine_in h)) (Ok tt) (take (512 * i) out) (machine_in j) c.args.into.now out
    (reached_all (reads b n) (machine_in h) i (take (512 * i) out) (machine_in j) c.loop-i.invariant.0 (omega (arith, length_reads b n)))
    (over_front (512 * i) out c.args.into.now (omega arith) c.loop-i.invariant.1)
