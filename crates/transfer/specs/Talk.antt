-- A conversation with a drive: which commands were sent, what was answered, and what came of it.
use Rattle.std.specs.Prelude.{◌≡◌, ℕ, ◌+◌, List, [], ◌∷◌, ◌++◌, take, drop, Some, None, Ok, Err, Option, Result}
use Rattle.ata.specs.declared.answer.Answer.{Answer}
use Rattle.ata.specs.declared.task.TaskFile.{TaskFile}
use Rattle.ata.specs.Commands.{Load}
use Rattle.ata.specs.Exchange.{Exchange, exchange}
use Rattle.sense.specs.declared.case.Sense.{Sense}
use Rattle.sense.specs.declared.case.Sense.TheVariants.{NoSense, NoAnswer, DeviceFault, InterfaceCrc, Unreadable, NotFound, Aborted, Attention, UnknownCode, WrongField, PastEnd}
use Rattle.sense.specs.Table.{result_of}
use Rattle.transfer.specs.declared.faults.Fault.{Fault}
use Rattle.transfer.specs.declared.faults.Place.TheVariants.{Drive}
use Rattle.transfer.specs.declared.counts.Tally.{Tally}

-- Exchanges one after another: what a drive did to become another.
abbrev pub Chain : {D : Type 0} → (D → Exchange → D → Type 0) → D → List Exchange → D → Type 0
Chain does d [] e = d ≡ e
Chain {D} does d (x ∷ xs) e = (m : D) × does d x m × Chain does m xs e

abbrev pub Verdict : Type 0
Verdict = Result (Unit {0}) Fault

abbrev pub failed : Sense → Option ℕ → Verdict
failed s b = Err record { sense = s; block = b; place = Drive }

-- An answer by the result table: an unreadable block is named.
abbrev pub judged_as : Sense → ℕ → Verdict
judged_as NoSense b = Ok tt
judged_as NoAnswer b = failed NoAnswer None
judged_as DeviceFault b = failed DeviceFault None
judged_as InterfaceCrc b = failed InterfaceCrc None
judged_as Unreadable b = failed Unreadable (Some b)
judged_as NotFound b = failed NotFound None
judged_as Aborted b = failed Aborted None
judged_as Attention b = failed Attention None
judged_as UnknownCode b = failed UnknownCode None
judged_as WrongField b = failed WrongField None
judged_as PastEnd b = failed PastEnd None

abbrev pub judged : Answer → Verdict
judged a = judged_as (result_of a.status a.error) a.block

-- One command as it is put to a drive: what goes with it, given its part of data-in, how many bytes of data-in its verdict stands for.
pub record Ask : Type 0 where
  pub task : TaskFile
  pub carry : List ℕ → Load
  pub gains : Verdict → ℕ
  pub at : ℕ
  pub len : ℕ

abbrev pub part : Ask → List ℕ → List ℕ
part k buffer = take k.len (drop k.at buffer)

-- new bytes in the place of that part
abbrev pub laid : Ask → List ℕ → List ℕ → List ℕ
laid k back buffer = take k.at buffer ++ (back ++ drop k.len (drop k.at buffer))

abbrev pub made : Ask → List ℕ → List ℕ → Answer → Exchange
made k buffer back a = exchange k.task (k.carry (part k buffer)) back a

abbrev pub goes_on : Verdict → Type 0 → Type 0 → Type 0
goes_on (Ok u) A B = A
goes_on (Err f) A B = B

-- The exchanges are what is asked, in order, up to and including the first that failed.
abbrev pub Follows : List Ask → List ℕ → List Exchange → Type 0
Follows [] buffer [] = Unit {0}
Follows [] buffer (x ∷ xs) = ⊥
Follows (k ∷ ks) buffer [] = ⊥
Follows (k ∷ ks) buffer (x ∷ xs) =
    (x ≡ made k buffer x.back x.answer) ×
    goes_on (judged x.answer) (Follows ks (laid k x.back buffer) xs) (xs ≡ [])

-- data-in with each part replaced by what its exchange left there
abbrev pub placed : List Ask → List Exchange → List ℕ → List ℕ
placed [] xs buffer = buffer
placed (k ∷ ks) [] buffer = buffer
placed (k ∷ ks) (x ∷ xs) buffer = placed ks xs (laid k x.back buffer)

abbrev pub after : Verdict → Verdict → Verdict
after (Ok u) r = r
after (Err f) r = Err f

-- the verdict: good, or the fault of the first that failed
abbrev pub verdict : List Ask → List Exchange → Verdict
verdict [] xs = Ok tt
verdict (k ∷ ks) [] = Ok tt
verdict (k ∷ ks) (x ∷ xs) = after (judged x.answer) (verdict ks xs)

-- one command more, and the bytes that it stands for
abbrev pub counted : Ask → Answer → Tally → Tally
counted k a p = record { bytes = p.bytes + k.gains (judged a); commands = p.commands + 1 }

abbrev pub tallied : List Ask → List Exchange → Tally → Tally
tallied [] xs p = p
tallied (k ∷ ks) [] p = p
tallied (k ∷ ks) (x ∷ xs) p = tallied ks xs (counted k x.answer p)

abbrev pub none_yet : Tally
none_yet = record { bytes = 0; commands = 0 }

-- What was asked was said: the drive d became e, data-in and the tally are as after it, and r is the verdict.
pub record Held {D : Type 0} (does : D → Exchange → D → Type 0) (ks : List Ask) (d : D) (buffer : List ℕ) (p : Tally) (e : D) (end : List ℕ) (q : Tally) (r : Verdict) : Type 0 where
  pub said : List Exchange
  pub chain : Chain does d said e
  pub follows : Follows ks buffer said
  pub bytes : end ≡ placed ks said buffer
  pub tally : q ≡ tallied ks said p
  pub result : r ≡ verdict ks said

-- The same of one command: its part of data-in before and after.
pub record Asked {D : Type 0} (does : D → Exchange → D → Type 0) (k : Ask) (d : D) (before : List ℕ) (p : Tally) (e : D) (back : List ℕ) (q : Tally) (r : Verdict) : Type 0 where
  pub answer : Answer
  pub done : does d (exchange k.task (k.carry before) back answer) e
  pub tally : q ≡ counted k answer p
  pub result : r ≡ judged answer
