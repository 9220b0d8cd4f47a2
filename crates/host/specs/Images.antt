-- The images of new disks. A cell is a mark, 0 where it can be read and 1 where it cannot, and 512 bytes of zeros.
use Rattle.std.specs.Prelude.{ℕ, zero, suc, ◌+◌, ◌*◌, cond, List, [], ◌∷◌, replicate, fold, ◌==◌, slice_set}

-- an image of blocks of so many bytes, after the cell at `at` of a block is marked; one past the end has no mark
abbrev pub spoiled : ℕ → ℕ → List ℕ → ℕ → List ℕ
spoiled size at image b = slice_set image (size * b + at) 1

abbrev pub marked : ℕ → ℕ → List ℕ → List ℕ → List ℕ
marked size at image bad = fold (spoiled size at) image bad

-- an image after the first so many cells of each listed block are marked
abbrev pub cells_marked : ℕ → ℕ → List ℕ → List ℕ → List ℕ
cells_marked size zero image bad = image
cells_marked size (suc k) image bad = marked size (513 * k) (cells_marked size k image bad) bad

-- the image of a new disk with so many cells a block
abbrev pub image_of : ℕ → ℕ → List ℕ → List ℕ
image_of cells n bad = cells_marked (513 * cells) cells (replicate (513 * cells * n) 0) bad

-- a plain disk has one cell a block
abbrev pub plain_image : ℕ → List ℕ → List ℕ
plain_image n bad = marked 513 0 (replicate (513 * n) 0) bad

-- a caching disk has two, medium and then face
abbrev pub caching_image : ℕ → List ℕ → List ℕ
caching_image n bad = marked 1026 513 (marked 1026 0 (replicate (1026 * n) 0) bad) bad

-- the mark of a block, by the list of those that cannot be read
abbrev pub mark_of : ℕ → List ℕ → ℕ
mark_of b [] = 0
mark_of b (x ∷ bad) = cond (b == x) 1 (mark_of b bad)
