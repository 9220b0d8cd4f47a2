-- One task file with what went with it, and what came back.
use Rattle.std.specs.Prelude.{◌≡◌, ℕ, List}
use Rattle.ata.specs.declared.answer.Answer.{Answer}
use Rattle.ata.specs.declared.task.TaskFile.{TaskFile}
use Rattle.ata.specs.Machine.{Oracle}
use Rattle.ata.specs.Commands.{State, Load, gives, perform}

pub record Exchange : Type 0 where
  pub task : TaskFile
  pub load : Load
  pub back : List ℕ
  pub answer : Answer

abbrev pub exchange : TaskFile → Load → List ℕ → Answer → Exchange
exchange t l b a = record { task = t; load = l; back = b; answer = a }

-- An exchange that the meaning allows, by some choices of the drive.
abbrev pub Agrees : State → Exchange → State → Type 0
Agrees s e t = (o : Oracle) × (gives e.answer t e.back ≡ perform o s e.task e.load)
