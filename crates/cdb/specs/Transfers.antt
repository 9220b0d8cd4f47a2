-- What READ and WRITE have in common, in a form of any length.
use Rattle.std.specs.Prelude.{ℕ, ◌-◌, Bool, ◌||◌, List}
use Rattle.cdb.specs.declared.form.Transfer.{Transfer}
use Rattle.cdb.specs.Fields.{Extent, flag}

-- NACA is bit 2 of the last byte
abbrev pub naca : ℕ → List ℕ → Bool
naca size cdb = flag cdb (size - 1) 4

-- the protection field is bits 7 to 5 of byte 1
abbrev pub protected : List ℕ → Bool
protected cdb = flag cdb 1 224

-- FUA is bit 3 of byte 1
abbrev pub forced : List ℕ → Bool
forced cdb = flag cdb 1 8

abbrev pub transfer_by : ℕ → (List ℕ → Extent) → List ℕ → Transfer
transfer_by size range cdb = record { extent = range cdb; fua = forced cdb; wrong = naca size cdb || protected cdb }
