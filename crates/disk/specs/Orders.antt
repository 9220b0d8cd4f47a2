-- What a disk takes a task file for.
use Rattle.std.specs.Prelude.{◌*◌, ◌<◌, Bool, true, false, length}
use Rattle.std.specs.Int.NonZero.{non_zero_u32_get}
use Rattle.ata.specs.Commands.{Load, incoming, incoming_words, outgoing}
use Rattle.ata.specs.Commands.{Order as Meant, identify, read, verify, write, flush, switch, idle, unknown}
use Rattle.disk.specs.declared.order.Order.{Order}
use Rattle.disk.specs.declared.order.Order.TheVariants.{Identify, Read, Verify, Write, Flush, Switch, Idle, Unknown}

abbrev pub meant : Order → Meant
meant Identify = identify
meant (Read n) = read (non_zero_u32_get n)
meant (Verify n) = verify (non_zero_u32_get n)
meant (Write t n) = write t (non_zero_u32_get n)
meant Flush = flush
meant (Switch on) = switch on
meant Idle = idle
meant Unknown = unknown

-- An order with no data of its kind beside it, or too little.
abbrev pub Bare : Load → Meant → Type 0
Bare l identify = length (incoming_words l) < 256
Bare l (read n) = length (incoming l) < 512 * n
Bare l (verify n) = Unit {0}
Bare l (write t n) = length (outgoing l) < 512 * n
Bare l flush = Unit {0}
Bare l (switch on) = Unit {0}
Bare l idle = Unit {0}
Bare l unknown = Unit {0}

abbrev pub switches : Meant → Bool
switches identify = false
switches (read n) = false
switches (verify n) = false
switches (write t n) = false
switches flush = false
switches (switch on) = true
switches idle = false
switches unknown = false
