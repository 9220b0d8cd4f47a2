-- What a write leaves of the plain disk.
use Rattle.std.proofs.Common.{◌≡◌, ℕ, Bool, true, false, cond, List, set, refl, sym, ap}
use Rattle.ata.specs.Machine.{Content, bytes, write_step, stored}
use Rattle.disk.specs.Cells.{contents}
use Rattle.ata.specs.Words.{cached}
use Rattle.disk.specs.Claimed.{words_for}
use Rattle.disk.proofs.Decoded.{cached_for}
use Rattle.plain.specs.Meaning.{claims_of, store_of}

-- what is written is on the medium, through the cache or not
pub store_written : (n : ℕ) (image new : List ℕ) (t : Bool) (b : ℕ) (xs : List ℕ) → contents 513 0 n new ≡ set (contents 513 0 n image) b (bytes xs) → store_of n new ≡ stored (write_step t b (bytes xs)) (store_of n image)
store_written n image new true b xs e = ap (λ (z : List Content). record { face = z; medium = z; caching = false }) e
store_written n image new false b xs e = ap (λ (z : List Content). record { face = z; medium = z; caching = false }) e

-- there is no cache that the return of power could switch on
pub none_switched_on : (n : ℕ) (image : List ℕ) (v : Bool) → store_of n image ≡ cond v (store_of n image) (record { face = (store_of n image).face; medium = (store_of n image).medium; caching = cached (words_for (claims_of n)) })
none_switched_on n image true = refl
none_switched_on n image false = ap (λ (on : Bool). record { face = contents 513 0 n image; medium = contents 513 0 n image; caching = on }) (sym (cached_for (claims_of n)))
