-- What a CDB asks for: its length is judged first, then what it needs of the buffers, then its other fields.
use Rattle.std.specs.Prelude.{ℕ, ◌*◌, Bool, true, cond, not, ◌||◌, List, [], ◌∷◌, length, Ok, Err, Result, ◌==◌, nat_lt}
use Rattle.sense.specs.declared.case.Sense.{Sense}
use Rattle.sense.specs.declared.case.Sense.TheVariants.{UnknownCode, WrongField}
use Rattle.sense.specs.declared.refusal.Refusal.{Refusal}
use Rattle.sense.specs.declared.refusal.Refusal.TheVariants.{CdbLength}
use Rattle.cdb.specs.declared.command.Command.{Command}
use Rattle.cdb.specs.declared.command.Command.TheVariants.{TestUnitReady, ReadCapacity, Read, Write}
use Rattle.cdb.specs.declared.operation.Operation.{Operation}
use Rattle.cdb.specs.declared.operation.Operation.TheVariants.{TestUnitReady as TestOp, ReadCapacity as CapacityOp, Read as ReadOp, Write as WriteOp, Unknown}
use Rattle.cdb.specs.declared.request.Request.{Request}
use Rattle.cdb.specs.declared.form.Transfer.{Transfer}
use Rattle.cdb.specs.Fields.{flag, word_at, ten_extent}
use Rattle.cdb.specs.Transfers.{naca, transfer_by}

-- 6 bytes for codes to 1Fh, 10 to 5Fh, 16 for 80h to 9Fh, 12 for A0h to BFh; any other code has no length of its own
abbrev pub length_fits : ℕ → ℕ → Bool
length_fits code n =
    cond (nat_lt code 32) (n == 6)
    (cond (nat_lt code 96) (n == 10)
    (cond (nat_lt code 128) true
    (cond (nat_lt code 160) (n == 16)
    (cond (nat_lt code 192) (n == 12)
    true))))

abbrev pub operation_of : ℕ → Operation
operation_of code =
    cond (code == 0) TestOp
    (cond (code == 37) CapacityOp
    (cond (code == 40) ReadOp
    (cond (code == 42) WriteOp
    Unknown)))

-- PMI is bit 0 of byte 8
abbrev pub partial : List ℕ → Bool
partial cdb = flag cdb 8 1

abbrev pub judged_field : Bool → Command → Result Command Sense
judged_field wrong c = cond wrong (Err WrongField) (Ok c)

-- what is needed of data-out, of data-in, and the command or what is wrong with it
abbrev pub asks_for : ℕ → ℕ → Result Command Sense → Request
asks_for out into c = record { out = out; into = into; command = c }

abbrev pub read_request : Transfer → Request
read_request t = asks_for 0 (512 * t.extent.count) (judged_field t.wrong (Read t.fua t.extent))

abbrev pub write_request : Transfer → Request
write_request t = asks_for (512 * t.extent.count) 0 (judged_field t.wrong (Write t.fua t.extent))

abbrev pub requested : Operation → List ℕ → Request
requested TestOp cdb = asks_for 0 0 (judged_field (naca 6 cdb) TestUnitReady)
requested CapacityOp cdb =
    asks_for 0 8 (judged_field (naca 10 cdb || (partial cdb || not (word_at cdb 2 == 0))) ReadCapacity)
requested ReadOp cdb = read_request (transfer_by 10 ten_extent cdb)
requested WriteOp cdb = write_request (transfer_by 10 ten_extent cdb)
requested Unknown cdb = asks_for 0 0 (Err UnknownCode)

abbrev pub received : List ℕ → Result Request Refusal
received [] = Err CdbLength
received (code ∷ rest) =
    cond (length_fits code (length (code ∷ rest))) (Ok (requested (operation_of code) (code ∷ rest))) (Err CdbLength)
