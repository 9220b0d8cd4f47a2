-- When each medium is its face.
use Rattle.std.specs.Prelude.{◌≡◌, ℕ, Bool, true, false, cond, not, ◌&&◌, ◌||◌, List, slice_set, refl}
use Rattle.std.proofs.Common.{sym, ◌∙◌, ap, arith}
use Rattle.ata.specs.Machine.{Content}
use Rattle.disk.specs.Powers.{lit_of}
use Rattle.disk.specs.Cells.{contents}
use Rattle.disk.proofs.Sets.{untruncated}
use Rattle.caching.specs.Sides.{faces, media}
use Rattle.caching.specs.Meaning.{image_of}
use Rattle.caching.specs.declared.caching_disk.CachingDisk.{CachingDisk}

pub off_waits : (on lit : Bool) → on ≡ false → (on && lit) ≡ false
off_waits on lit h = ap (λ (v : Bool). v && lit) h

pub dark_waits : (on lit : Bool) → lit ≡ false → (on && lit) ≡ false
dark_waits true lit h = h
dark_waits false lit h = refl

pub level_of : (d : CachingDisk) → (d.caching && lit_of d.power.supply) ≡ false → media d.blocks (image_of d) ≡ faces d.blocks (image_of d)
level_of d h = untruncated (media d.blocks (image_of d)) (faces d.blocks (image_of d)) (d.level h)

-- the cells of one side of an image, once they are as those of a first image were
pub side_is : (offset n : ℕ) (items new slice image : List ℕ) (from : ℕ) → items ≡ new → slice ≡ image → contents 1026 offset n new ≡ contents 1026 from n slice → contents 1026 offset n items ≡ contents 1026 from n image
side_is offset n items new slice image from e f c =
    ap (λ (xs : List ℕ). contents 1026 offset n xs) e ∙ c ∙ ap (λ (xs : List ℕ). contents 1026 from n xs) f

-- the two sides of an image after a write to block b
pub faces_after : (n : ℕ) (items new slice image : List ℕ) (b : ℕ) (x : Content) → items ≡ new → slice ≡ image → faces n new ≡ slice_set (faces n slice) b x → faces n items ≡ slice_set (faces n image) b x
faces_after n items new slice image b x e f h = ap (λ (xs : List ℕ). faces n xs) e ∙ h ∙ ap (λ (xs : List ℕ). slice_set (faces n xs) b x) f

pub media_after : (n : ℕ) (items new slice image : List ℕ) (b : ℕ) (x : Content) (deep : Bool) → items ≡ new → slice ≡ image → media n new ≡ cond deep (slice_set (media n slice) b x) (media n slice) → media n items ≡ cond deep (slice_set (media n image) b x) (media n image)
media_after n items new slice image b x deep e f h = ap (λ (xs : List ℕ). media n xs) e ∙ h ∙ ap (λ (xs : List ℕ). cond deep (slice_set (media n xs) b x) (media n xs)) f

-- a write goes to the medium where it is through, or the cache is off
pub sinks_as : (t on deep : Bool) (x y : List Content) → deep ≡ (t || not on) → cond deep x y ≡ cond t x (cond on y x)
sinks_as t on deep x y e = ap (λ (v : Bool). cond v x y) e ∙ by t on
  where
    by : (t on : Bool) → cond (t || not on) x y ≡ cond t x (cond on y x)
    by true on = refl
    by false true = refl
    by false false = refl

pub deep_where_off : (t on lit deep : Bool) → deep ≡ (t || not on) → lit ≡ true → (on && lit) ≡ false → deep ≡ true
deep_where_off true on lit deep e l h = e
deep_where_off false false lit deep e l h = e
deep_where_off false true lit deep e l h = let z : ◌≡◌ {A = ℕ} 0 1 = cc in absurd (omega arith)

-- a new disk, whose medium is as the faces were unless its cache is on
pub level_at_first : (cache lit : Bool) (m f x y : List Content) → lit ≡ true → (cache && lit) ≡ false → x ≡ cond cache m f → y ≡ f → x ≡ y
level_at_first true lit m f x y l h e g = let z : ◌≡◌ {A = ℕ} 0 1 = cc in absurd (omega arith)
level_at_first false lit m f x y l h e g = e ∙ sym g
