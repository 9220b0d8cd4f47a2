-- Slips in hand: which is found by a number, and what entering it and giving it up leave.
use Rattle.std.specs.Prelude.{◌≡◌, ℕ, zero, suc, Bool, true, false, List, ◌++◌, Some, None, Ok, Err, vec_items, Option, Result, ◌==◌}
use Rattle.std.specs.List.{find, before_first, after_first}
use Rattle.sense.specs.declared.case.Sense.TheVariants.{NoSense}
use Rattle.sense.specs.declared.refusal.Refusal.TheVariants.{SheetFull}
use Rattle.transfer.specs.declared.faults.Place.TheVariants.{Unit as UnitPlace}
use Rattle.slips.specs.declared.slips.Slip.{Slip}
use Rattle.slips.specs.declared.slips.Line.{Line}
use Rattle.slips.specs.Slips.{line_of}
use Rattle.slips.specs.Sheets.{Sheet, is_full, entered, one_given_up}
use Rattle.hand.specs.declared.held.Hand.{Hand}
use Rattle.hand.specs.declared.held.NotEntered.{NotEntered}
use Rattle.hand.specs.declared.held.NotEntered.TheVariants.{NotInHand, Refused}

abbrev pub slips_of : Hand → List Slip
slips_of h = vec_items h.slips

-- what is read past the end of a list of slips
abbrev pub blank : Slip
blank = record { line = record { number = 0; code = 0; fault = record { sense = NoSense; block = None; place = UnitPlace } } }

abbrev pub has_number : ℕ → Slip → Bool
has_number n s = (line_of s).number == n

-- the first slip of a number, and the others
abbrev pub picked : ℕ → List Slip → Option Slip
picked n ss = find (has_number n) ss

abbrev pub without : ℕ → List Slip → List Slip
without n ss = before_first (has_number n) ss ++ after_first (has_number n) ss

-- What an entering gives, and the hand and the sheet after it.
pub record Left {A : Type 0} (r a : A) (ss' ss : List Slip) (t' t : Sheet) : Type 0 where
  pub answer : r ≡ a
  pub hand : ss' ≡ ss
  pub sheet : t' ≡ t

-- Entered, the slip goes from the hand to the sheet; a full sheet leaves it in hand.
abbrev pub EntersFound : Option Slip → Bool → ℕ → List Slip → Sheet → Result Line NotEntered → List Slip → Sheet → Type 0
EntersFound None full n ss t r ss' t' = Left r (Err NotInHand) ss' ss t' t
EntersFound (Some s) true n ss t r ss' t' = Left r (Err (Refused SheetFull)) ss' ss t' t
EntersFound (Some s) false n ss t r ss' t' = Left r (Ok (line_of s)) ss' (without n ss) t' (entered (line_of s) t)

abbrev pub Enters : ℕ → List Slip → Sheet → Result Line NotEntered → List Slip → Sheet → Type 0
Enters n ss t r ss' t' = EntersFound (picked n ss) (is_full t) n ss t r ss' t'

-- Given up, it goes from the hand and is counted.
abbrev pub GivesUpFound : Option Slip → ℕ → List Slip → Sheet → Option Line → List Slip → Sheet → Type 0
GivesUpFound None n ss t r ss' t' = Left r None ss' ss t' t
GivesUpFound (Some s) n ss t r ss' t' = Left r (Some (line_of s)) ss' (without n ss) t' (one_given_up t)

abbrev pub GivesUp : ℕ → List Slip → Sheet → Option Line → List Slip → Sheet → Type 0
GivesUp n ss t r ss' t' = GivesUpFound (picked n ss) n ss t r ss' t'

-- so many slips given up, one after another
unfoldable pub all_given_up : ℕ → Sheet → Sheet
all_given_up zero t = t
all_given_up (suc n) t = all_given_up n (one_given_up t)
