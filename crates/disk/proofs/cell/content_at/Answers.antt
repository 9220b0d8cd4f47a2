use Rattle.std.proofs.Common.{◌≡◌, ℕ, ◌+◌, ◌-◌, true, false, eqb, get_or, take, drop, sym, ap, ◌∙◌, arith}
use Rattle.std.proofs.lemmas.Bool.Decides.{nat_tests}
use Rattle.ata.specs.Machine.{bytes}
use Rattle.disk.proofs.Cells.{cell_outside, cell_inside}
use Rattle.disk.proofs.cell.content_at.Goals as goal

pub returns-then-not-lies_inside : goal.returns-then-not-lies_inside
returns-then-not-lies_inside c = cell_outside c.args.image.now c.args.at (sym c.lies_inside.ensures ∙ c.if-not-lies_inside.true)

pub returns-then-image-at-ne0 : goal.returns-then-image-at-ne0
returns-then-image-at-ne0 c =
    let m : eqb (get_or c.args.image.now c.args.at 0) 0 ≡ false = grind (arith, nat_tests) in
    cell_inside c.args.image.now c.args.at false (sym c.lies_inside.ensures ∙ c.if-not-lies_inside.false) m

pub returns : goal.returns
returns c =
    let image = c.args.image.now in
    let at = c.args.at in
    let h = sym c.lies_inside.ensures ∙ c.if-not-lies_inside.false in
    let m : eqb (get_or image at 0) 0 ≡ true = grind (arith, nat_tests) in
    let n : 512 ≡ at + 513 - (at + 1) = omega arith in
    (cell_inside image at true h m ∙ ap (λ (k : ℕ). bytes (take k (drop (at + 1) image))) n, omega arith)
