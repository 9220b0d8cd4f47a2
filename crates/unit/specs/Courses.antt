-- What becomes of a command: where it is stopped, or what it asks of the drive.
use Rattle.std.specs.Prelude.{◌≡◌, ℕ, ◌+◌, ◌*◌, Bool, true, false, cond, ◌||◌, List, [], ◌∷◌, ◌++◌, length, take, drop, Ok, Err, Result, nat_le, nat_lt}
use Rattle.ata.specs.declared.task.AtaCommand.TheVariants.{CheckPowerMode}
use Rattle.ata.specs.Commands.{over, blocks}
use Rattle.ata.specs.Exchange.{Exchange}
use Rattle.sense.specs.declared.case.Sense.{Sense}
use Rattle.sense.specs.declared.case.Sense.TheVariants.{DeviceFault, Attention as AttentionSense, PastEnd}
use Rattle.sense.specs.declared.refusal.Refusal.{Refusal}
use Rattle.sense.specs.declared.refusal.Refusal.TheVariants.{DataOutShort, DataInShort}
use Rattle.cdb.specs.declared.command.Command.{Command}
use Rattle.cdb.specs.declared.command.Command.TheVariants.{TestUnitReady, ReadCapacity, Read, Write}
use Rattle.cdb.specs.declared.command.Extent.{Extent}
use Rattle.cdb.specs.declared.request.Request.{Request}
use Rattle.cdb.specs.Requests.{received}
use Rattle.transfer.specs.declared.faults.Fault.{Fault}
use Rattle.transfer.specs.declared.faults.Place.{Place}
use Rattle.transfer.specs.declared.faults.Place.TheVariants.{Unit as UnitPlace, Cdb as CdbPlace}
use Rattle.transfer.specs.declared.counts.Tally.{Tally}
use Rattle.transfer.specs.declared.writing.Force.{Force}
use Rattle.transfer.specs.declared.writing.Force.TheVariants.{Cached, Through, Flushed}
use Rattle.transfer.specs.Tasks.{task, piece}
use Rattle.transfer.specs.Talk.{Ask, Verdict, none_yet, Held}
use Rattle.transfer.specs.Asks.{plain_ask, read_asks, write_asks}
use Rattle.transfer.specs.Steps.{Work, read_work, write_work, idle_work}
use Rattle.unit.specs.declared.known.Facts.{Facts}
use Rattle.unit.specs.declared.standing.Phase.{Phase}
use Rattle.unit.specs.declared.standing.Phase.TheVariants.{Unfit, Attention, Ready}
use Rattle.unit.specs.declared.replies.Reply.{Reply}
use Rattle.unit.specs.declared.replies.Reply.TheVariants.{Good}
use Rattle.unit.specs.Replies.{replied, stopped_at}
use Rattle.unit.specs.Capacity.{capacity_data}

-- Turned away by number; stopped at a place; answered by the unit; or put to the drive, with the first bytes of data-in:
-- by these commands, which are this work.
pub data Course : Type 0 where
  refused : Refusal → Course
  stopped : Place → Sense → Course
  answers : List ℕ → Course
  asks : ℕ → List Ask → Work → Course

abbrev pub past : Facts → Extent → Bool
past f x = nat_le f.blocks x.block || nat_lt f.blocks (x.block + x.count)

-- A WRITE with FUA goes through the cache where the drive can, and is flushed after it where not.
abbrev pub force_by : Bool → Bool → Force
force_by false through = Cached
force_by true true = Through
force_by true false = Flushed

abbrev pub power_check : List Ask
power_check = plain_ask (task CheckPowerMode 0 0) ∷ []

-- a command to a unit that is ready, whose drive takes `most` blocks at once
abbrev pub course_of : Facts → ℕ → List ℕ → Command → Course
course_of f most out TestUnitReady = asks 0 power_check (idle_work most)
course_of f most out ReadCapacity = answers (capacity_data f.blocks)
course_of f most out (Read fua x) =
    cond (past f x) (stopped CdbPlace PastEnd)
    (asks (512 * x.count) (read_asks f.width fua (piece f.width most) x.block x.count) (read_work most fua x.block x.count))
course_of f most out (Write fua x) =
    cond (past f x) (stopped CdbPlace PastEnd)
    (asks 0 (write_asks f.width (force_by fua f.through) (piece f.width most) x.block (take (512 * x.count) out))
    (write_work most (force_by fua f.through) x.block (blocks x.count (take (512 * x.count) out))))

abbrev pub in_phase : Phase → ℕ → List ℕ → Result Command Sense → Course
in_phase Unfit most out c = stopped UnitPlace DeviceFault
in_phase (Attention f) most out c = stopped UnitPlace AttentionSense
in_phase (Ready f) most out (Err s) = stopped CdbPlace s
in_phase (Ready f) most out (Ok c) = course_of f most out c

-- the buffers are judged by what the command needs, before anything else of it
abbrev pub with_room : Phase → ℕ → List ℕ → ℕ → Request → Course
with_room p most out room q =
    cond (nat_lt (length out) q.out) (refused DataOutShort)
    (cond (nat_lt room q.into) (refused DataInShort) (in_phase p most out q.command))

abbrev pub taken_in : Phase → ℕ → List ℕ → ℕ → Result Request Refusal → Course
taken_in p most out room (Err n) = refused n
taken_in p most out room (Ok q) = with_room p most out room q

-- the course of a CDB with its data-out and as much room in data-in
abbrev pub course : Phase → ℕ → List ℕ → List ℕ → ℕ → Course
course p most cdb out room = taken_in p most out room (received cdb)

-- An attention ends with the command that is told of it, but not with one that is turned away by number. The facts stay.
abbrev pub calm : Phase → Phase
calm Unfit = Unfit
calm (Attention f) = Ready f
calm (Ready f) = Ready f

abbrev pub phase_after : Course → Phase → Phase
phase_after (refused n) p = p
phase_after (stopped at s) p = calm p
phase_after (answers xs) p = calm p
phase_after (asks n ks w) p = calm p

-- What the drive, data-in and the reply are after a command that took the course.
abbrev pub Comes : {D : Type 0} → (D → Exchange → D → Type 0) → Course → D → List ℕ → D → List ℕ → Result (Reply Fault) Refusal → Type 0
Comes does (refused n) d b e b' r = (e ≡ d) × (b' ≡ b) × (r ≡ Err n)
Comes does (stopped at s) d b e b' r = (e ≡ d) × (b' ≡ b) × (r ≡ Ok (stopped_at at s))
Comes does (answers xs) d b e b' r = (e ≡ d) × (b' ≡ over xs b) × (r ≡ Ok (Good (record { bytes = length xs; commands = 0 })))
Comes does (asks n ks w) d b e b' r =
    (end : List ℕ) × (q : Tally) × (v : Verdict) × Held does ks d (take n b) none_yet e end q v × (b' ≡ end ++ drop n b) × (r ≡ Ok (replied v q))
