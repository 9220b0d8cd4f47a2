use Rattle.std.proofs.Common.{◌≡◌, length, vec_items, vec_len}
use Rattle.slips.specs.Sheets.{sheet_of}
use Rattle.hand.specs.Hands.{all_given_up}
use Rattle.hand.proofs.held.Hand.give_up_all.Given as goal

-- what is left to give up makes the whole
abbrev pub invariant-loop-last : goal.invariant-loop-last
invariant-loop-last l =
    all_given_up (length (vec_items l.self.slips)) (sheet_of l.sheet) ≡ all_given_up (length (vec_items l.initial.self.slips)) (sheet_of l.initial.sheet)

abbrev pub decreases-loop-last : goal.decreases-loop-last
decreases-loop-last l = vec_len l.self.slips
