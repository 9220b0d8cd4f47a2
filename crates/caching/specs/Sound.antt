-- The caching disk is a sound disk over an image.
use Rattle.std.specs.Prelude.{refl}
use Rattle.std.proofs.Common.{sym, ◌∙◌, arith}
use Rattle.disk.specs.Powers.{lit_of}
use Rattle.disk.proofs.Images.{length_contents, contents_sectors}
use Rattle.image_disk.specs.Sound.{Sound}
use Rattle.caching.specs.Levels.{off_waits, dark_waits, level_of}
use Rattle.caching.specs.Meaning.{image_of, held_of}
use Rattle.caching.specs.declared.caching_disk.CachingDisk.{CachingDisk}

pub sound_of : (d : CachingDisk) → Sound 65536 (held_of d)
sound_of d =
    record {
      sized = length_contents 1026 513 d.blocks (image_of d);
      small = omega arith;
      most_some = omega arith;
      most_fits = omega arith;
      orders_top = d.orders_fit;
      errors_top = d.errors_fit;
      level = length_contents 1026 0 d.blocks (image_of d) ∙ sym (length_contents 1026 513 d.blocks (image_of d));
      cache_claimed = λ h. refl;
      off = λ h. level_of d (off_waits d.caching (lit_of d.power.supply) h);
      dark = λ h. level_of d (dark_waits d.caching (lit_of d.power.supply) h);
      sectors = λ i. contents_sectors 1026 513 d.blocks (image_of d) i;
    }
