-- The bytes of the CDBs that a script builds, numbers high byte first.
use Rattle.std.specs.Prelude.{ℕ, ◌/◌, ◌%◌, Bool, cond, List, [], ◌∷◌, ◌++◌}
use Rattle.cdb.specs.Fields.{Extent}

abbrev pub two_bytes : ℕ → List ℕ
two_bytes n = (n / 256 % 256) ∷ (n % 256) ∷ []

abbrev pub four_bytes : ℕ → List ℕ
four_bytes n = (n / 16777216 % 256) ∷ (n / 65536 % 256) ∷ (n / 256 % 256) ∷ (n % 256) ∷ []

-- the code, and no field set
abbrev pub six_bytes : ℕ → List ℕ
six_bytes code = code ∷ 0 ∷ 0 ∷ 0 ∷ 0 ∷ 0 ∷ []

-- the code, FUA in bit 3 of byte 1, the address in bytes 2 to 5, the length in bytes 7 and 8
abbrev pub ten_bytes : ℕ → ℕ → ℕ → Bool → List ℕ
ten_bytes code block count fua =
    code ∷ (cond fua 8 0 ∷ (four_bytes block ++ (0 ∷ (two_bytes count ++ (0 ∷ [])))))

abbrev pub extent_of : ℕ → ℕ → Extent
extent_of block count = record { block = block; count = count }
