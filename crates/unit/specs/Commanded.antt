-- All that a command comes to: which commands were sent, what the drive, data-in, the reply and the unit's state are after it.
use Rattle.std.specs.Prelude.{◌≡◌, ℕ, List, length, Result}
use Rattle.ata.specs.Commands.{State}
use Rattle.ata.specs.Exchange.{Exchange}
use Rattle.sense.specs.declared.refusal.Refusal.{Refusal}
use Rattle.unit.specs.declared.attach.Unit.{Unit as Bay}
use Rattle.transfer.specs.declared.faults.Fault.{Fault}
use Rattle.unit.specs.declared.replies.Reply.{Reply}
use Rattle.unit.specs.Attached.{Remembers}
use Rattle.unit.specs.Courses.{Course, Comes, course, phase_after}
use Rattle.unit.specs.Works.{Works}

-- The course that a command takes: by the unit's state, with what it remembers, and the most blocks that the drive takes at once.
abbrev pub course_from : {D : Type 0} → (D → State) → Bay D → List ℕ → List ℕ → ℕ → Course
course_from meaning t cdb out room = course t.phase (meaning t.drive).most cdb out room

abbrev pub Truthful : {D : Type 0} → (D → State) → Bay D → Type 0
Truthful meaning t = Remembers t.phase (meaning t.drive)

-- From t, with a CDB, data-out and data-in, a command leaves u and data-in and ends as r.
pub record Commanded {D : Type 0} (does : D → Exchange → D → Type 0) (meaning : D → State) (t : Bay D) (cdb out before : List ℕ) (u : Bay D) (after : List ℕ) (r : Result (Reply Fault) Refusal) : Type 0 where
  pub came : Comes does (course_from meaning t cdb out (length before)) t.drive before u.drive after r
  pub works : Truthful meaning t → Works (course_from meaning t cdb out (length before)) (meaning t.drive) before (meaning u.drive) after r
  pub remembers : Truthful meaning t → Truthful meaning u
  pub phase : u.phase ≡ phase_after (course_from meaning t cdb out (length before)) t.phase
