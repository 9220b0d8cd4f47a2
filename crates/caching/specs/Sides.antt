-- The two sides of an image with 1,026 bytes a block: the cell of a block's medium, and then that of its face.
use Rattle.std.specs.Prelude.{ℕ, ◌+◌, ◌≤◌, ◌⊎◌, List}
use Rattle.ata.specs.Machine.{Content}
use Rattle.disk.specs.Cells.{contents}

abbrev pub media : ℕ → List ℕ → List Content
media n image = contents 1026 0 n image

abbrev pub faces : ℕ → List ℕ → List Content
faces n image = contents 1026 513 n image

-- Two places for cells in a block that share no byte.
pub record Sides (from to : ℕ) : Type 0 where
  pub from_fits : from + 513 ≤ 1026
  pub to_fits : to + 513 ≤ 1026
  pub apart : (from + 513 ≤ to) ⊎ (to + 513 ≤ from)
