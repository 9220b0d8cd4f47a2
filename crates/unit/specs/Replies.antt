-- What a command comes to.
use Rattle.std.specs.Prelude.{None, Ok, Err}
use Rattle.sense.specs.declared.case.Sense.{Sense}
use Rattle.transfer.specs.declared.faults.Fault.{Fault}
use Rattle.transfer.specs.declared.faults.Place.{Place}
use Rattle.transfer.specs.declared.counts.Tally.{Tally}
use Rattle.transfer.specs.Talk.{Verdict, none_yet}
use Rattle.unit.specs.declared.replies.Reply.{Reply}
use Rattle.unit.specs.declared.replies.Reply.TheVariants.{Good, Check}

abbrev pub replied : Verdict → Tally → Reply Fault
replied (Ok u) q = Good q
replied (Err f) q = Check f q

-- stopped before the drive was asked for anything
abbrev pub stopped_at : Place → Sense → Reply Fault
stopped_at p s = Check (record { sense = s; block = None; place = p }) none_yet
