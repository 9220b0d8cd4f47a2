-- A disk over an image is a drive.
use Rattle.std.proofs.Common.{◌≡◌, ℕ, ◌≤◌, Bool, true, false, ◌&&◌, refl, sym, ◌∙◌, subst}
use Rattle.ata.specs.Words.{count_limit}
use Rattle.ata.specs.Commands.{Formed}
use Rattle.disk.proofs.Decoded.{words_long, wide_for, cached_for, through_for, cache_off_for, blocks_for}
use Rattle.image_disk.specs.Held.{Held, state_in}
use Rattle.image_disk.specs.Sound.{Sound}

first : (a b : Bool) → (a && b) ≡ true → a ≡ true
first true b e = refl
first false b e = e

pub formed_in : (most : ℕ) (h : Held) → Sound most h → Formed (state_in most h)
formed_in most h s =
    let k = h.claims in
    record {
      words_long = words_long k;
      cache_bit_clear = cache_off_for k;
      blocks_true = blocks_for k s.small ∙ sym s.sized;
      through_wide = λ t. wide_for k ∙ first k.wide k.through (sym (through_for k) ∙ t);
      most_some = s.most_some;
      most_fits = subst (λ (v : Bool). most ≤ count_limit v) (sym (wide_for k)) s.most_fits;
      orders_top = s.orders_top;
      errors_top = s.errors_top;
      level = s.level;
      cache_claimed = λ c. cached_for k ∙ s.cache_claimed c;
      off = s.off;
      dark = s.dark;
      sectors = s.sectors;
    }
