-- The words by which a drive is fit for a unit, and what the unit remembers of them.
use Rattle.std.specs.Prelude.{◌≡◌, ℕ, ◌+◌, ◌^◌, ◌<◌, ◌≤◌, Bool, true, cond, not, ◌&&◌, ◌⊎◌, List, nat_lt}
use Rattle.ata.specs.Words.{claims, wide, through, blocks_of}
use Rattle.cdb.specs.declared.command.Extent.{Extent}
use Rattle.transfer.specs.Tasks.{width_of}
use Rattle.unit.specs.declared.known.Facts.{Facts}

-- the largest number of blocks that the addresses reach
abbrev pub reach : Bool → ℕ
reach w = cond w (2 ^ 48) (2 ^ 28)

-- word 0 bit 15 is 0, word 83 bits 15 and 14 are 0 and 1, and there is at least one block, and none out of reach
abbrev pub is_fit : List ℕ → Bool
is_fit ws =
    not (claims ws 0 32768) && (claims ws 83 16384 && (not (claims ws 83 32768) && (nat_lt 0 (blocks_of ws) && nat_lt (blocks_of ws) (reach (wide ws)))))

pub record KnownFrom (ws : List ℕ) (f : Facts) : Type 0 where
  pub fit : is_fit ws ≡ true
  pub blocks : f.blocks ≡ blocks_of ws
  pub width : f.width ≡ width_of (wide ws)
  pub through : f.through ≡ through ws

-- A range goes past the end where its first block is not there, or its last.
abbrev pub Past : Facts → Extent → Type 0
Past f x = (f.blocks ≤ x.block) ⊎ (f.blocks < x.block + x.count)

pub record InRange (f : Facts) (x : Extent) (start : ℕ) : Type 0 where
  pub first : x.block < f.blocks
  pub last : x.block + x.count ≤ f.blocks
  pub is : start ≡ x.block
