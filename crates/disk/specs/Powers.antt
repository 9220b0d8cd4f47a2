-- The power that a disk has and what it counts, and the state of a drive with such power.
use Rattle.std.specs.Prelude.{ℕ, zero, suc, Bool, true, false, cond, List, Some, None, Option}
use Rattle.ata.specs.Machine.{Store, Machine, one_error_more}
use Rattle.ata.specs.Commands.{State, one_order_more}
use Rattle.disk.specs.declared.power.Supply.{Supply}
use Rattle.disk.specs.declared.power.Supply.TheVariants.{Lasting, Steps, Gone}
use Rattle.disk.specs.declared.power.Power.{Power}

abbrev pub power : Supply → ℕ → ℕ → Power
power s errors orders = record { supply = s; errors = errors; orders = orders }

-- A new disk has power that lasts.
abbrev pub full : Power
full = power Lasting 0 0

abbrev pub lit_of : Supply → Bool
lit_of Lasting = true
lit_of (Steps n) = true
lit_of Gone = false

-- the steps that are left, where power does not last
abbrev pub left_of : Supply → Option ℕ
left_of Lasting = None
left_of (Steps n) = Some n
left_of Gone = Some 0

-- whether there is power for a step
abbrev pub lasts : Supply → Bool
lasts Lasting = true
lasts (Steps zero) = false
lasts (Steps (suc n)) = true
lasts Gone = false

abbrev pub stepped : Supply → Supply
stepped Lasting = Lasting
stepped (Steps zero) = Gone
stepped (Steps (suc n)) = Steps n
stepped Gone = Gone

-- the power after one step's was taken
abbrev pub spent : Power → Power
spent p = power (stepped p.supply) p.errors p.orders

abbrev pub order_counted : Power → Power
order_counted p = power p.supply p.errors (one_order_more p.orders)

abbrev pub error_counted : Power → Power
error_counted p = power p.supply (one_error_more p.errors) p.orders

-- Power fails after n more steps, if it is there.
abbrev pub cut_after : ℕ → Power → Power
cut_after n p = power (cond (lit_of p.supply) (Steps n) p.supply) p.errors p.orders

-- Power comes back, if it is not there, and lasts.
abbrev pub restored : Power → Power
restored p = power (cond (lit_of p.supply) p.supply Lasting) p.errors p.orders

abbrev pub machine_with : Store → Power → Machine
machine_with s p = record { store = s; lit = lit_of p.supply; left = left_of p.supply; errors = p.errors }

abbrev pub with_errors : Machine → ℕ → Machine
with_errors m e = record { store = m.store; lit = m.lit; left = m.left; errors = e }

abbrev pub state_with : List ℕ → ℕ → Store → Power → State
state_with words most s p = record { words = words; most = most; orders = p.orders; machine = machine_with s p }
