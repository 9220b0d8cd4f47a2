-- How an image in memory holds blocks: a cell is a mark, 0 where its block can be read, and then 512 bytes.
use Rattle.std.specs.Prelude.{ℕ, ◌+◌, ◌*◌, Bool, true, false, cond, List, ◌∷◌, ◌++◌, map, length, take, drop, ◌==◌, nat_le, slice_index}
use Rattle.std.specs.List.{range_with_len}
use Rattle.ata.specs.Machine.{Content, unreadable, bytes}

abbrev pub marked : ℕ → List ℕ → Content
marked mark xs = cond (mark == 0) (bytes xs) unreadable

-- whether the cell at a byte of the image lies wholly inside it
abbrev pub inside : List ℕ → ℕ → Bool
inside image at = nat_le (at + 513) (length image)

-- The cell at a byte of the image. One that is not wholly inside cannot be read.
unfoldable pub cell_at : List ℕ → ℕ → Content
cell_at image at = cond (inside image at) (marked (slice_index image at) (take 512 (drop (at + 1) image))) unreadable

abbrev pub readable : Content → Bool
readable unreadable = false
readable (bytes xs) = true

-- The image after a write to the cell at a byte of it: the cell can be read, and all else is as it was.
unfoldable pub with_cell : List ℕ → ℕ → List ℕ → List ℕ
with_cell image at xs = take at image ++ (0 ∷ (xs ++ drop (at + 513) image))

-- The contents of n blocks, whose cells stand a stride apart, the first at an offset.
unfoldable pub contents : ℕ → ℕ → ℕ → List ℕ → List Content
contents stride offset n image = map (λ b. cell_at image (stride * b + offset)) (range_with_len 0 n)
