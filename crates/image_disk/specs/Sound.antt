-- What holds of every disk over an image at every time.
use Rattle.std.specs.Prelude.{◌≡◌, ℕ, ◌^◌, ◌<◌, ◌≤◌, true, false, length, slice_index_or}
use Rattle.ata.specs.Machine.{unreadable}
use Rattle.ata.specs.Words.{count_limit}
use Rattle.ata.specs.Commands.{Sector}
use Rattle.disk.specs.Powers.{lit_of}
use Rattle.image_disk.specs.Held.{Held}

pub record Sound (most : ℕ) (h : Held) : Type 0 where
  pub sized : length h.store.face ≡ h.claims.blocks
  pub small : h.claims.blocks < 2 ^ 28
  pub most_some : 0 < most
  pub most_fits : most ≤ count_limit h.claims.wide
  pub orders_top : h.power.orders < 2 ^ 64
  pub errors_top : h.power.errors < 2 ^ 32
  pub level : length h.store.medium ≡ length h.store.face
  pub cache_claimed : h.store.caching ≡ true → h.claims.cache ≡ true
  pub off : h.store.caching ≡ false → h.store.medium ≡ h.store.face
  pub dark : lit_of h.power.supply ≡ false → h.store.medium ≡ h.store.face
  pub sectors : (k : ℕ) → Sector (slice_index_or h.store.face k unreadable)
