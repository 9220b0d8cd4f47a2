-- A block of an image: what a read or a write of its cell says of the contents.
use Rattle.std.proofs.Common.{◌≡◌, ℕ, ◌+◌, ◌*◌, ◌<◌, ◌≤◌, Bool, true, cond, ◌&&◌, eqb, List, length, get_or, sym, ap, ◌∙◌, arith}
use Rattle.std.proofs.lemmas.Bool.Decides.{nat_tests}
use Rattle.ata.specs.Machine.{unreadable}
use Rattle.disk.specs.Cells.{inside, cell_at, with_cell, contents}
use Rattle.disk.proofs.Cells.{inside_true}
use Rattle.disk.proofs.Images.{get_or_contents}

-- a block, by the slice that its image was lent as
pub block_at : (stride offset n : ℕ) (image slice : List ℕ) (b at : ℕ) → slice ≡ image → b < n → at ≡ stride * b + offset → get_or (contents stride offset n image) b unreadable ≡ cell_at slice at
block_at stride offset n image slice b at e h f =
    get_or_contents stride offset n image b unreadable h
    ∙ (λ i. cell_at (sym e i) (sym f i))

-- a write of one cell that lies inside
pub cell_written : (image new xs : List ℕ) (at : ℕ) (v : Bool) → at + 513 ≤ length image → length xs ≡ 512 → v ≡ (inside image at && eqb (length xs) 512) → new ≡ cond v (with_cell image at xs) image → new ≡ with_cell image at xs
cell_written image new xs at v h l r e =
    let i = inside_true image at h in
    let j : eqb (length xs) 512 ≡ true = grind (arith, nat_tests) in
    let t : v ≡ true = r ∙ ap (λ (x : Bool). x && eqb (length xs) 512) i ∙ j in
    e ∙ ap (λ (x : Bool). cond x (with_cell image at xs) image) t
