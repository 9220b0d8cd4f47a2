use Rattle.std.proofs.Common.{◌≡◌, ◌+◌, [], sym, ap, ◌∙◌, arith, rules, Ok}
use Rattle.ata.specs.Machine.{End, verify_step, ends}
use Rattle.ata.specs.Commands.{verifies}
use Rattle.disk.proofs.Runs.{reached_more, reached_end, reached_all}
use Rattle.disk.proofs.Transfers.{length_verifies, get_or_verifies}
use Rattle.image_disk.specs.Held.{machine_in}
use Rattle.image_disk.proofs.Keeps.{kept_on}
use Rattle.image_disk.proofs.runs.run_verifies.Goals as goal

pub loop-i-preserved : goal.loop-i-preserved
loop-i-preserved g c =
    let b = c.args.span.block in
    let n = c.args.span.count in
    let i = c.loop-i.i in
    let h = g.D.ImageDisk.held c.args.disk.now in
    let j = g.D.ImageDisk.held c.loop-i.disk in
    let k = g.D.ImageDisk.held c.verify_step.new.disk in (
      reached_more (verifies b n) (machine_in h) i [] (machine_in j) (verify_step (b + i)) [] (machine_in k)
          c.loop-i.invariant.0 (omega (arith, length_verifies b n)) (get_or_verifies b n i c.loop-i-test.true) c.in_ok-verify_step.ensures.stepped,
      kept_on h j k c.loop-i.invariant.1 c.verify_step.ensures.kept,
    )

pub returns-in_err-verify_step : goal.returns-in_err-verify_step
returns-in_err-verify_step g c =
    let b = c.args.span.block in
    let n = c.args.span.count in
    let i = c.loop-i.i in
    let h = g.D.ImageDisk.held c.args.disk.now in
    let j = g.D.ImageDisk.held c.loop-i.disk in
    let k = g.D.ImageDisk.held c.verify_step.new.disk in
    let z = c.from_residual.result in
    let r : z ≡ c.verify_step.result = search rules in
    let w : ◌≡◌ {A = End} z (Ok tt) → ⊥ = λ e. search rules in
    record {
      ran =
          reached_end (verifies b n) (machine_in h) i [] (machine_in j) (verify_step (b + i)) z (machine_in k)
          c.loop-i.invariant.0 (omega (arith, length_verifies b n)) (get_or_verifies b n i c.loop-i-test.true) (c.verify_step.ensures.stepped ∙ ap (λ (y : End). ends y [] (machine_in k)) (sym r)) w;
      kept = kept_on h j k c.loop-i.invariant.1 c.verify_step.ensures.kept;
    }

pub returns-clause-ran : goal.returns-clause-ran
returns-clause-ran g c =
    let b = c.args.span.block in
    let n = c.args.span.count in
    reached_all (verifies b n) (machine_in (g.D.ImageDisk.held c.args.disk.now)) c.loop-i.i [] (machine_in (g.D.ImageDisk.held c.loop-i.disk)) c.loop-i.invariant.0 (omega (arith, length_verifies b n))
