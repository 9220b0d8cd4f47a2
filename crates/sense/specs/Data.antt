-- Fixed-format sense data: 18 bytes.
use Rattle.std.specs.Prelude.{ℕ, ◌/◌, ◌%◌, ◌^◌, cond, List, [], ◌∷◌, Some, None, Option, nat_lt}
use Rattle.sense.specs.declared.case.SenseValues.{SenseValues}

-- byte 0, the information in bytes 3 to 6, high byte first, and the values in bytes 2, 12 and 13
abbrev pub fixed_format : ℕ → ℕ → SenseValues → List ℕ
fixed_format first info v =
    first ∷ 0 ∷ v.key ∷ (info / 2 ^ 24 % 256) ∷ (info / 2 ^ 16 % 256) ∷ (info / 2 ^ 8 % 256) ∷ (info % 256) ∷ 0x0A
    ∷ 0 ∷ 0 ∷ 0 ∷ 0 ∷ v.code ∷ v.qualifier ∷ 0 ∷ 0 ∷ 0 ∷ 0 ∷ []

-- a block below 2 ^ 32 is the information, which byte 0 then marks as valid; any other is left out
abbrev pub sense_data : SenseValues → Option ℕ → List ℕ
sense_data v None = fixed_format 0x70 0 v
sense_data v (Some block) = cond (nat_lt block (2 ^ 32)) (fixed_format 0xF0 block v) (fixed_format 0x70 0 v)
