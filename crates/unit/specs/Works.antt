-- What a course does to a drive that is as the unit remembers it, in the words of blocks and free of pieces.
use Rattle.std.specs.Prelude.{◌≡◌, ℕ, true, false, List, [], ◌∷◌, ◌++◌, length, take, drop, None, Ok, Result}
use Rattle.ata.specs.Machine.{Step, Look, scored}
use Rattle.ata.specs.Commands.{State, over, ordered}
use Rattle.sense.specs.declared.case.Sense.TheVariants.{NoAnswer}
use Rattle.sense.specs.declared.refusal.Refusal.{Refusal}
use Rattle.transfer.specs.declared.counts.Tally.{Tally}
use Rattle.transfer.specs.declared.faults.Fault.{Fault}
use Rattle.transfer.specs.Talk.{Verdict, failed, none_yet}
use Rattle.transfer.specs.Steps.{Work, Stepped, told_by}
use Rattle.unit.specs.declared.replies.Reply.{Reply}
use Rattle.unit.specs.declared.replies.Reply.TheVariants.{Good}
use Rattle.unit.specs.Replies.{replied}
use Rattle.unit.specs.Courses.{Course, refused, stopped, answers, asks}

-- While no power failure is pending, what is seen is what the faces show: the drive's freedom does not show.
pub record Shown (l : Look) (s : State) (room : List ℕ) (t : State) (end : List ℕ) (q : Tally) (v : Verdict) : Type 0 where
  pub verdict : v ≡ told_by l.end
  pub data_in : end ≡ over l.given room
  pub bytes : q.bytes ≡ length l.given
  pub faces : t.machine.store.face ≡ l.face
  pub errors : t.machine.errors ≡ scored l.end s.machine.errors
  pub lit : t.machine.lit ≡ true
  pub left : t.machine.left ≡ None

-- A drive with power goes through the steps of the work; the first n bytes of data-in take part.
pub record Lit (w : Work) (n : ℕ) (s : State) (b : List ℕ) (t : State) (b' : List ℕ) (r : Result (Reply Fault) Refusal) : Type 0 where
  pub tally : Tally
  pub verdict : Verdict
  pub end : List ℕ
  pub stepped : Stepped s w.steps w.commands w.finished (take n b) t end tally verdict
  pub shown : s.machine.left ≡ None → Shown (w.shows s.machine.store.face) s (take n b) t end tally verdict
  pub data_in : b' ≡ end ++ drop n b
  pub reply : r ≡ Ok (replied verdict tally)

-- A drive without power is sent one command, where there is any work, and gives no answer.
abbrev pub dark_state : List Step → State → State
dark_state [] s = s
dark_state (x ∷ xs) s = ordered s

abbrev pub dark_reply : List Step → Reply Fault
dark_reply [] = Good none_yet
dark_reply (x ∷ xs) = replied (failed NoAnswer None) (record { bytes = 0; commands = 1 })

pub record Dark (w : Work) (s : State) (b : List ℕ) (t : State) (b' : List ℕ) (r : Result (Reply Fault) Refusal) : Type 0 where
  pub state : t ≡ dark_state w.steps s
  pub data_in : b' ≡ b
  pub reply : r ≡ Ok (dark_reply w.steps)

abbrev pub Works : Course → State → List ℕ → State → List ℕ → Result (Reply Fault) Refusal → Type 0
Works (refused n) s b t b' r = t ≡ s
Works (stopped at x) s b t b' r = t ≡ s
Works (answers xs) s b t b' r = t ≡ s
Works (asks n ks w) s b t b' r =
    (s.machine.lit ≡ true → Lit w n s b t b' r) × (s.machine.lit ≡ false → Dark w s b t b' r)
