-- The fields of a CDB, high byte first.
use Rattle.std.specs.Prelude.{ℕ, ◌+◌, ◌*◌, Bool, not, List, ◌==◌, bit_and, slice_index}
use Rattle.cdb.specs.declared.command.Extent.{Extent as Range}

abbrev pub Extent : Type 0
Extent = Range

abbrev pub byte : List ℕ → ℕ → ℕ
byte cdb i = slice_index cdb i

abbrev pub pair_at : List ℕ → ℕ → ℕ
pair_at cdb i = byte cdb i * 256 + byte cdb (i + 1)

abbrev pub word_at : List ℕ → ℕ → ℕ
word_at cdb i = ((byte cdb i * 256 + byte cdb (i + 1)) * 256 + byte cdb (i + 2)) * 256 + byte cdb (i + 3)

-- whether a bit of byte i is set
abbrev pub flag : List ℕ → ℕ → ℕ → Bool
flag cdb i mask = not (bit_and (byte cdb i) mask == 0)

-- ten bytes: the address in bytes 2 to 5, the length in bytes 7 and 8
abbrev pub ten_extent : List ℕ → Range
ten_extent cdb = record { block = word_at cdb 2; count = pair_at cdb 7 }
