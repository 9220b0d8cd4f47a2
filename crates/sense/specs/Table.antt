-- The result table: what a drive's status and error bytes mean.
use Rattle.std.specs.Prelude.{ℕ, ◌^◌, Bool, cond, not, ◌==◌, bit_and}
use Rattle.sense.specs.declared.case.Sense.{Sense}
use Rattle.sense.specs.declared.case.Sense.TheVariants.{NoSense, NoAnswer, DeviceFault, InterfaceCrc, Unreadable, NotFound, Aborted}

-- whether bit k of a byte is set
abbrev pub bit : ℕ → ℕ → Bool
bit k byte = not (bit_and byte (2 ^ k) == 0)

-- the first row that fits
abbrev pub result_of : ℕ → ℕ → Sense
result_of status error =
    cond (status == 0) NoAnswer
    (cond (bit 5 status) DeviceFault
    (cond (not (bit 0 status)) NoSense
    (cond (bit 7 error) InterfaceCrc
    (cond (bit 6 error) Unreadable
    (cond (bit 4 error) NotFound
    Aborted)))))
