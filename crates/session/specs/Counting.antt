-- How a session counts: each count stops at its largest value.
use Rattle.std.specs.Prelude.{ℕ, ◌+◌, min, Ok, Err, Result}
use Rattle.sense.specs.declared.refusal.Refusal.{Refusal}
use Rattle.transfer.specs.declared.faults.Fault.{Fault}
use Rattle.unit.specs.declared.replies.Reply.{Reply}
use Rattle.unit.specs.declared.replies.Reply.TheVariants.{Good, Check}
use Rattle.session.specs.declared.counts.Counts.{Counts}

abbrev pub more : ℕ → ℕ → ℕ
more n k = min (n + k) 18446744073709551615

-- one answer is one of the three, and sent so many ATA commands
abbrev pub after_answer : Result (Reply Fault) Refusal → Counts → Counts
after_answer (Ok (Good t)) s =
    record { acts = s.acts; good = more s.good 1; check = s.check; refused = s.refused; commands = more s.commands t.commands }
after_answer (Ok (Check fault t)) s =
    record { acts = s.acts; good = s.good; check = more s.check 1; refused = s.refused; commands = more s.commands t.commands }
after_answer (Err refusal) s =
    record { acts = s.acts; good = s.good; check = s.check; refused = more s.refused 1; commands = s.commands }
