-- Slips: their numbers, what a line repeats of one, and which command hands one out.
use Rattle.std.specs.Prelude.{◌≡◌, ℕ, ◌+◌, min, List, Ok, Err, Result, slice_index}
use Rattle.sense.specs.declared.refusal.Refusal.{Refusal}
use Rattle.transfer.specs.declared.faults.Fault.{Fault}
use Rattle.unit.specs.declared.replies.Reply.{Reply}
use Rattle.unit.specs.declared.replies.Reply.TheVariants.{Good, Check}
use Rattle.slips.specs.declared.slips.Slip.{Slip}
use Rattle.slips.specs.declared.slips.Line.{Line}

-- A line repeats all of its slip.
abbrev pub line_of : Slip → Line
line_of s = s.line

-- Numbers run from 1, and stay at 2^64 - 1.
abbrev pub next_number : ℕ → ℕ
next_number n = min (n + 1) 18446744073709551615

-- what a reply says beside the number and the code of its slip
abbrev pub inner_reply : Result (Reply Slip) Refusal → Result (Reply Fault) Refusal
inner_reply (Err n) = Err n
inner_reply (Ok (Good q)) = Ok (Good q)
inner_reply (Ok (Check s q)) = Ok (Check (line_of s).fault q)

-- A CHECK CONDITION hands out the slip of the next number, with the CDB's code; nothing else moves the number.
abbrev pub Numbered : ℕ → List ℕ → Result (Reply Slip) Refusal → ℕ → Type 0
Numbered n cdb (Err x) n' = n' ≡ n
Numbered n cdb (Ok (Good q)) n' = n' ≡ n
Numbered n cdb (Ok (Check s q)) n' = (n' ≡ next_number n) × ((line_of s).number ≡ n') × ((line_of s).code ≡ slice_index cdb 0)
