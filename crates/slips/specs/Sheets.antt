-- The run sheet, by what can be read of it.
use Rattle.std.specs.Prelude.{ℕ, ◌+◌, min, Bool, List, [], ◌∷◌, ◌++◌, length, ◌==◌}
use Rattle.bounded.specs.Entries.{entries, room}
use Rattle.sense.specs.declared.refusal.Refusal.TheVariants.{SheetFull}
use Rattle.slips.specs.declared.slips.Slip.{Slip}
use Rattle.slips.specs.declared.slips.Line.{Line}
use Rattle.slips.specs.declared.slips.HandedBack.{HandedBack}
use Rattle.slips.specs.declared.sheet.RunSheet.{RunSheet}

-- Its lines in the order in which they were entered, how many there is room for, and how many slips were given up.
pub record Sheet : Type 0 where
  pub lines : List Line
  pub room : ℕ
  pub given_up : ℕ

abbrev pub sheet_of : RunSheet → Sheet
sheet_of s = record { lines = entries s.lines; room = room s.lines; given_up = s.given_up }

abbrev pub fresh : ℕ → Sheet
fresh n = record { lines = []; room = n; given_up = 0 }

abbrev pub is_full : Sheet → Bool
is_full s = length s.lines == s.room

abbrev pub entered : Line → Sheet → Sheet
entered x s = record { lines = s.lines ++ (x ∷ []); room = s.room; given_up = s.given_up }

-- The count stays at 2^32 - 1.
abbrev pub one_given_up : Sheet → Sheet
one_given_up s = record { lines = s.lines; room = s.room; given_up = min (s.given_up + 1) 4294967295 }

-- A full sheet hands the slip back whole.
abbrev pub Refused : Slip → HandedBack
Refused x = record { refusal = SheetFull; slip = x }
