-- The image after a copy of a cell.
use Rattle.std.specs.Prelude.{ℕ, ◌+◌, List, ◌++◌, take, drop}

-- The cell at the byte `from` stands at the byte `to` too, and all else is as it was.
unfoldable pub with_copy : List ℕ → ℕ → ℕ → List ℕ
with_copy image from to = take to image ++ (take 513 (drop from image) ++ drop (to + 513) image)
