-- Bytes and numbers as they are written.
use Rattle.std.specs.Prelude.{ℕ, ◌+◌, ◌-◌, ◌*◌, Bool, false, cond, ◌&&◌, List, [], ◌∷◌, drop, Some, None, Ok, Err, Option, Result, ◌==◌, nat_le}
use Rattle.std.specs.Str.Parse.{ParsesUnsigned}
use Rattle.acts.specs.declared.wrong.Wrong.{Wrong}
use Rattle.acts.specs.declared.wrong.Wrong.TheVariants.{Byte}

-- 0 to 9, A to F, a to f
abbrev pub hex_digit : ℕ → Option ℕ
hex_digit c =
    cond (nat_le 48 c && nat_le c 57) (Some (c - 48))
    (cond (nat_le 65 c && nat_le c 70) (Some (c - 65 + 10))
    (cond (nat_le 97 c && nat_le c 102) (Some (c - 97 + 10))
    None))

abbrev pub two_digits : Option ℕ → Option ℕ → Result ℕ Wrong
two_digits None low = Err Byte
two_digits (Some h) None = Err Byte
two_digits (Some h) (Some l) = Ok (h * 16 + l)

abbrev pub byte_of : List ℕ → Result ℕ Wrong
byte_of [] = Err Byte
byte_of (high ∷ []) = Err Byte
byte_of (high ∷ (low ∷ [])) = two_digits (hex_digit high) (hex_digit low)
byte_of (high ∷ (low ∷ (x ∷ rest))) = Err Byte

-- whether a text begins with 0x
abbrev pub is_hex : List ℕ → Bool
is_hex [] = false
is_hex (a ∷ []) = false
is_hex (a ∷ (b ∷ rest)) = a == 48 && b == 120

abbrev pub base_of : List ℕ → ℕ
base_of text = cond (is_hex text) 16 10

abbrev pub digits_of : List ℕ → List ℕ
digits_of text = cond (is_hex text) (drop 2 text) text

-- a number of k bits is what its digits write in its base; anything else is no number
abbrev pub Reads : ℕ → List ℕ → Result ℕ Wrong → Type 0
Reads k text r = ParsesUnsigned k (base_of text) (digits_of text) r
