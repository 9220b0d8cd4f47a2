-- The refusals, each with its number.
use Rattle.std.specs.Prelude.{ℕ}
use Rattle.sense.specs.declared.refusal.Refusal.{Refusal}
use Rattle.sense.specs.declared.refusal.Refusal.TheVariants.{CdbLength, DataOutShort, DataInShort, SheetFull, SenseBufferShort}

abbrev pub number_of : Refusal → ℕ
number_of CdbLength = 1
number_of DataOutShort = 2
number_of DataInShort = 3
number_of SheetFull = 5
number_of SenseBufferShort = 6
