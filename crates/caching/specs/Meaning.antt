-- What the caching disk is as a drive: a face and a medium of each block, 48-bit commands, a cache and, as chosen, the write through it.
use Rattle.std.specs.Prelude.{ℕ, ◌/◌, min, Bool, true, cond, List, length, vec_items}
use Rattle.ata.specs.Machine.{Store, Machine}
use Rattle.ata.specs.Commands.{State}
use Rattle.disk.specs.declared.words.Claims.{Claims}
use Rattle.disk.specs.declared.power.Power.{Power}
use Rattle.disk.specs.Claimed.{words_for}
use Rattle.disk.specs.Powers.{full, machine_with, state_with}
use Rattle.image_disk.specs.Held.{Held}
use Rattle.caching.specs.Sides.{media, faces}
use Rattle.caching.specs.declared.caching_disk.CachingDisk.{CachingDisk}

-- the whole blocks of an image, as far as 28 bits go
abbrev pub blocks_in : List ℕ → ℕ
blocks_in image = min (length image / 1026) 268435455

abbrev pub claims_of : ℕ → Bool → Claims
claims_of n through = record { blocks = n; wide = true; cache = true; through = through }

-- n blocks of an image
abbrev pub store_of : Bool → ℕ → List ℕ → Store
store_of on n image = record { face = faces n image; medium = media n image; caching = on }

-- a caching disk of n blocks
abbrev pub drive_of : ℕ → Bool → Store → Power → State
drive_of n through s p = state_with (words_for (claims_of n through)) 65536 s p

-- A new disk over an image: lit, with power that lasts and nothing counted. With its cache off the faces are its medium too.
abbrev pub fresh : List ℕ → Bool → Bool → State
fresh image cache through =
    drive_of (blocks_in image) through
    (record {
      face = faces (blocks_in image) image;
      medium = cond cache (media (blocks_in image) image) (faces (blocks_in image) image);
      caching = cache;
    })
    full

-- the same blocks with the cache on
abbrev pub cached_store : Store → Store
cached_store s = record { face = s.face; medium = s.medium; caching = true }

abbrev pub image_of : CachingDisk → List ℕ
image_of d = vec_items d.image

abbrev pub store_in : CachingDisk → Store
store_in d = store_of d.caching d.blocks (image_of d)

abbrev pub machine_of : CachingDisk → Machine
machine_of d = machine_with (store_in d) d.power

abbrev pub state_of : CachingDisk → State
state_of d = drive_of d.blocks d.through (store_in d) d.power

-- what it holds, as any disk over an image
abbrev pub held_of : CachingDisk → Held
held_of d = record { claims = claims_of d.blocks d.through; store = store_in d; power = d.power }
