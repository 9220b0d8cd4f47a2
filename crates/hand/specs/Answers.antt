-- What a command comes to where its slip is taken in hand.
use Rattle.std.specs.Prelude.{◌≡◌, ℕ, List, [], ◌∷◌, ◌++◌, Ok, Err, Result}
use Rattle.ata.specs.Commands.{State}
use Rattle.ata.specs.Exchange.{Exchange}
use Rattle.sense.specs.declared.refusal.Refusal.{Refusal}
use Rattle.slips.specs.declared.attached.Unit.{Unit as Bay}
use Rattle.slips.specs.declared.slips.Slip.{Slip}
use Rattle.slips.specs.declared.slips.Line.{Line}
use Rattle.slips.specs.Slips.{line_of, inner_reply, Numbered}
use Rattle.unit.specs.Commanded.{Commanded}
use Rattle.unit.specs.declared.replies.Reply.{Reply}
use Rattle.unit.specs.declared.replies.Reply.TheVariants.{Good, Check}

-- A reply as it is told, and the slip that it hands out.
abbrev pub told : Result (Reply Slip) Refusal → Result (Reply Line) Refusal
told (Err n) = Err n
told (Ok (Good q)) = Ok (Good q)
told (Ok (Check s q)) = Ok (Check (line_of s) q)

abbrev pub handed : Result (Reply Slip) Refusal → List Slip
handed (Err n) = []
handed (Ok (Good q)) = []
handed (Ok (Check s q)) = s ∷ []

-- The unit answered by its contract, and its slip, where there is one, is now the last in hand.
pub record Answered {D : Type 0} (does : D → Exchange → D → Type 0) (meaning : D → State) (u : Bay D) (ss : List Slip) (cdb out before : List ℕ) (v : Bay D) (ss' : List Slip) (after : List ℕ) (a : Result (Reply Line) Refusal) : Type 0 where
  pub reply : Result (Reply Slip) Refusal
  pub commanded : Commanded does meaning u.inner cdb out before v.inner after (inner_reply reply)
  pub numbered : Numbered u.issued cdb reply v.issued
  pub answer : a ≡ told reply
  pub hand : ss' ≡ ss ++ handed reply

pub record Untouched {D : Type 0} (u : Bay D) (ss : List Slip) (before : List ℕ) (v : Bay D) (ss' : List Slip) (after : List ℕ) : Type 0 where
  pub unit : v ≡ u
  pub hand : ss' ≡ ss
  pub data_in : after ≡ before
