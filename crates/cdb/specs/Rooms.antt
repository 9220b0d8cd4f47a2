-- The room that a command needs in data-out and data-in.
use Rattle.std.specs.Prelude.{ℕ, ◌*◌, ◌≤◌, Ok, Err, Result}
use Rattle.sense.specs.declared.case.Sense.{Sense}
use Rattle.cdb.specs.declared.command.Command.{Command}
use Rattle.cdb.specs.declared.command.Command.TheVariants.{TestUnitReady, ReadCapacity, Read, Write}

abbrev pub Room : Result Command Sense → ℕ → ℕ → Type 0
Room (Err s) out into = Unit {0}
Room (Ok TestUnitReady) out into = Unit {0}
Room (Ok ReadCapacity) out into = 8 ≤ into
Room (Ok (Read fua x)) out into = 512 * x.count ≤ into
Room (Ok (Write fua x)) out into = 512 * x.count ≤ out
