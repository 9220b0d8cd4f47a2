use Rattle.std.proofs.Common.{◌≡◌, true, eqb, length, sym, ◌∙◌, arith}
use Rattle.std.proofs.lemmas.Bool.Decides.{nat_tests}
use Rattle.disk.specs.Cells.{inside}
use Rattle.disk.proofs.Cells.{written}
use Rattle.disk.proofs.cell.write_cell.Goals as goal

pub returns : goal.returns
returns c =
    let h : inside c.args.image.now c.args.at ≡ true = sym c.lies_inside.ensures ∙ c.if-not-lies_inside.false in
    let l : eqb (length c.args.data.now) 512 ≡ true = grind (arith, nat_tests) in
    record {
      was = simp (h, l);
      content = written c.args.image.now c.copy_from_slice.new.self c.args.data.now c.args.at _ (grind (arith, nat_tests)) (omega arith) c.copy_from_slice.ensures.after;
    }
