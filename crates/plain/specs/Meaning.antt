-- What the plain disk is as a drive: its medium is what a read gives, and it claims nothing.
use Rattle.std.specs.Prelude.{ℕ, ◌/◌, min, false, List, length, vec_items}
use Rattle.ata.specs.Machine.{Store, Machine}
use Rattle.ata.specs.Commands.{State}
use Rattle.disk.specs.declared.words.Claims.{Claims}
use Rattle.disk.specs.declared.power.Power.{Power}
use Rattle.disk.specs.Cells.{contents}
use Rattle.disk.specs.Claimed.{words_for}
use Rattle.disk.specs.Powers.{full, machine_with, state_with}
use Rattle.image_disk.specs.Held.{Held}
use Rattle.plain.specs.declared.plain_disk.PlainDisk.{PlainDisk}

-- the whole cells of an image, as far as 28 bits go
abbrev pub blocks_in : List ℕ → ℕ
blocks_in image = min (length image / 513) 268435455

abbrev pub claims_of : ℕ → Claims
claims_of n = record { blocks = n; wide = false; cache = false; through = false }

-- n blocks, each in one cell: its face and its medium
abbrev pub store_of : ℕ → List ℕ → Store
store_of n image = record { face = contents 513 0 n image; medium = contents 513 0 n image; caching = false }

-- a plain disk of n blocks
abbrev pub plain : ℕ → List ℕ → Power → State
plain n image p = state_with (words_for (claims_of n)) 256 (store_of n image) p

-- A new disk over an image: lit, with power that lasts and nothing counted.
abbrev pub fresh : List ℕ → State
fresh image = plain (blocks_in image) image full

abbrev pub image_of : PlainDisk → List ℕ
image_of d = vec_items d.image

abbrev pub machine_of : PlainDisk → Machine
machine_of d = machine_with (store_of d.blocks (image_of d)) d.power

abbrev pub state_of : PlainDisk → State
state_of d = plain d.blocks (image_of d) d.power

-- what it holds, as any disk over an image
abbrev pub held_of : PlainDisk → Held
held_of d = record { claims = claims_of d.blocks; store = store_of d.blocks (image_of d); power = d.power }
