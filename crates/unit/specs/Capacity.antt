-- What READ CAPACITY gives, high byte first.
use Rattle.std.specs.Prelude.{ℕ, ◌-◌, ◌/◌, ◌%◌, min, List, [], ◌∷◌, ◌++◌}

abbrev pub four_bytes : ℕ → List ℕ
four_bytes n = (n / 16777216 % 256) ∷ (n / 65536 % 256) ∷ (n / 256 % 256) ∷ (n % 256) ∷ []

-- the last block, or FFFFFFFFh where four bytes do not reach it
abbrev pub last_block : ℕ → ℕ
last_block n = min (n - 1) 4294967295

abbrev pub capacity_data : ℕ → List ℕ
capacity_data n = four_bytes (last_block n) ++ four_bytes 512
