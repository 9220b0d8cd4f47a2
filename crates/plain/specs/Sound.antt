-- The plain disk is a sound disk over an image: it has no cache, so each face is its medium.
use Rattle.std.specs.Prelude.{◌≡◌, ℕ, refl}
use Rattle.std.proofs.Common.{arith}
use Rattle.disk.proofs.Images.{length_contents, contents_sectors}
use Rattle.image_disk.specs.Sound.{Sound}
use Rattle.plain.specs.Meaning.{image_of, held_of}
use Rattle.plain.specs.declared.plain_disk.PlainDisk.{PlainDisk}

pub sound_of : (d : PlainDisk) → Sound 256 (held_of d)
sound_of d =
    record {
      sized = length_contents 513 0 d.blocks (image_of d);
      small = omega arith;
      most_some = omega arith;
      most_fits = omega arith;
      orders_top = d.orders_fit;
      errors_top = d.errors_fit;
      level = refl;
      cache_claimed = λ h. let z : ◌≡◌ {A = ℕ} 0 1 = cc in absurd (omega arith);
      off = λ h. refl;
      dark = λ h. refl;
      sectors = λ i. contents_sectors 513 0 d.blocks (image_of d) i;
    }
