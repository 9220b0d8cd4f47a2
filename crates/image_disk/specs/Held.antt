-- What a disk over an image holds, and what a step leaves of it.
use Rattle.std.specs.Prelude.{◌≡◌, ℕ, ◌+◌, ◌≤◌, Bool, false, cond, List, [], Ok, Err, Result, slice_index_or}
use Rattle.ata.specs.declared.answer.Answer.{Answer}
use Rattle.ata.specs.declared.answer.Stop.{Stop}
use Rattle.ata.specs.Machine.{Content, unreadable, Store, Machine, Step, End, stored}
use Rattle.ata.specs.Commands.{State, Gave, gives, moves}
use Rattle.disk.specs.declared.words.Claims.{Claims}
use Rattle.disk.specs.declared.power.Power.{Power}
use Rattle.disk.specs.Claimed.{words_for}
use Rattle.disk.specs.Powers.{lasts, spent, order_counted, error_counted, machine_with, state_with}

-- what the disk claims, its blocks, and its power
pub record Held : Type 0 where
  pub claims : Claims
  pub store : Store
  pub power : Power

abbrev pub machine_in : Held → Machine
machine_in h = machine_with h.store h.power

-- the drive that it is, which moves so many blocks at most
abbrev pub state_in : ℕ → Held → State
state_in most h = state_with (words_for h.claims) most h.store h.power

abbrev pub with_store : Store → Held → Held
with_store s h = record { claims = h.claims; store = s; power = h.power }

abbrev pub with_power : Power → Held → Held
with_power p h = record { claims = h.claims; store = h.store; power = p }

-- what a read of a block would give
abbrev pub block_in : Held → ℕ → Content
block_in h b = slice_index_or h.store.face b unreadable

-- A command is counted, or an unreadable block.
abbrev pub one_order_on : Held → Held
one_order_on h = with_power (order_counted h.power) h

abbrev pub one_error_on : Held → Held
one_error_on h = with_power (error_counted h.power) h

-- Without power only the medium is left.
abbrev pub faded : Store → Store
faded s = record { face = s.medium; medium = s.medium; caching = s.caching }

-- One step's power is taken, or there is none and it fails.
abbrev pub power_taken : Held → Held
power_taken h =
    record {
      claims = h.claims;
      store = cond (lasts h.power.supply) h.store (faded h.store);
      power = spent h.power;
    }

abbrev pub had_power : Held → End
had_power h = cond (lasts h.power.supply) (Ok tt) (Err Stop.Cut)

-- A step that has its power does this to the blocks.
abbrev pub after : Step → Held → Held
after x h = with_store (stored x h.store) h

-- The parts that no step changes.
pub record Kept (h k : Held) : Type 0 where
  pub claims : k.claims ≡ h.claims
  pub orders : k.power.orders ≡ h.power.orders

-- what a read step put into a buffer
abbrev pub put : End → List ℕ → List ℕ
put (Ok tt) new = new
put (Err s) new = []

abbrev pub Untouched : End → List ℕ → List ℕ → Type 0
Untouched (Ok tt) was new = Unit {0}
Untouched (Err s) was new = new ≡ was

-- The steps of a command that moves n blocks, from block b on, are next.
pub record Admitted (most b n : ℕ) (short : Bool) (h k : Held) : Type 0 where
  pub counted : k ≡ one_order_on h
  pub few : n ≤ most
  pub long : short ≡ false
  pub within : b + n ≤ h.claims.blocks

-- Or it moves nothing, and has its answer.
abbrev pub Admits : ℕ → ℕ → ℕ → Bool → Held → Held → Result (Unit {0}) Answer → Type 0
Admits most b n short h k (Ok tt) = Admitted most b n short h k
Admits most b n short h k (Err a) =
    (buffer : List ℕ) (run : Gave) → gives a (state_in most k) buffer ≡ moves (state_in most h) b n short buffer run
