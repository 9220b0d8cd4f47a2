-- The sense cases, each with its sense key, additional sense code and qualifier.
use Rattle.std.specs.Prelude.{ℕ}
use Rattle.sense.specs.declared.case.Sense.{Sense}
use Rattle.sense.specs.declared.case.Sense.TheVariants.{NoSense, NoAnswer, DeviceFault, InterfaceCrc, Unreadable, NotFound, Aborted, Attention, UnknownCode, WrongField, PastEnd}
use Rattle.sense.specs.declared.case.SenseValues.{SenseValues}

-- a sense key, an additional sense code and its qualifier
abbrev pub triple : ℕ → ℕ → ℕ → SenseValues
triple k c q = record { key = k; code = c; qualifier = q }

abbrev pub values_of : Sense → SenseValues
values_of NoSense = triple 0 0x00 0x00
values_of NoAnswer = triple 4 0x08 0x00
values_of DeviceFault = triple 4 0x44 0x00
values_of InterfaceCrc = triple 0xB 0x47 0x03
values_of Unreadable = triple 3 0x11 0x00
values_of NotFound = triple 3 0x14 0x00
values_of Aborted = triple 0xB 0x00 0x00
values_of Attention = triple 6 0x29 0x00
values_of UnknownCode = triple 5 0x20 0x00
values_of WrongField = triple 5 0x24 0x00
values_of PastEnd = triple 5 0x21 0x00
