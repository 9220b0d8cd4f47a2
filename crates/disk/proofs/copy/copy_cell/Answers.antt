use Rattle.std.proofs.Common.{◌≡◌, ℕ, ◌+◌, ◌-◌, true, take, drop, ap, ◌∙◌, arith}
use lib.Seq.{paste}
use Rattle.std.proofs.lemmas.List.{append_assoc}
use Rattle.std.proofs.lemmas.Bool.Decides.{nat_tests}
use Rattle.disk.specs.Cells.{inside}
use Rattle.disk.specs.Copied.{with_copy}
use Rattle.disk.proofs.copy.copy_cell.Goals as goal

pub returns : goal.returns
unfolding with_copy
returns c =
    let image = c.args.image.now in
    let from = c.args.from in
    let to = c.args.to in
    let n : from + 513 - from ≡ 513 = omega arith in
    let h : inside image from ≡ true = grind (arith, nat_tests) in
    let l : inside image to ≡ true = grind (arith, nat_tests) in
    record {
      was = simp (h, l);
      content = c.copy_within.ensures.after ∙ ap (λ (k : ℕ). paste image to (drop from image) k) n ∙ append_assoc (take to image) (take 513 (drop from image)) (drop (to + 513) image);
    }
