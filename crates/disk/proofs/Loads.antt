-- Orders that come with no data of their kind.
use Rattle.std.proofs.Common.{◌≡◌, ℕ, Bool, List, refl, arith}
use Rattle.std.specs.declared.num.NonZeroU32.{NonZeroU32}
use Rattle.ata.specs.Commands.{nothing, sends, fetches, fetches_words}
use Rattle.disk.specs.declared.order.Order.{Order}
use Rattle.disk.specs.declared.order.Order.TheVariants.{Identify, Read, Verify, Write, Flush, Switch, Idle, Unknown}
use Rattle.disk.specs.Orders.{meant, Bare}

pub bare_nothing : (x : Order) → Bare nothing (meant x)
bare_nothing Identify = omega arith
bare_nothing (Read n) = omega arith
bare_nothing (Verify n) = tt
bare_nothing (Write t n) = omega arith
bare_nothing Flush = tt
bare_nothing (Switch on) = tt
bare_nothing Idle = tt
bare_nothing Unknown = tt

-- data to the drive serves a write alone
pub bare_sends : (xs : List ℕ) (x : Order) → ((t : Bool) (n : NonZeroU32) → x ≡ Write t n → ⊥) → Bare (sends xs) (meant x)
bare_sends xs Identify w = omega arith
bare_sends xs (Read n) w = omega arith
bare_sends xs (Verify n) w = tt
bare_sends xs (Write t n) w = absurd (w t n refl)
bare_sends xs Flush w = tt
bare_sends xs (Switch on) w = tt
bare_sends xs Idle w = tt
bare_sends xs Unknown w = tt

-- a buffer for data serves a read alone
pub bare_fetches : (xs : List ℕ) (x : Order) → ((n : NonZeroU32) → x ≡ Read n → ⊥) → Bare (fetches xs) (meant x)
bare_fetches xs Identify w = omega arith
bare_fetches xs (Read n) w = absurd (w n refl)
bare_fetches xs (Verify n) w = tt
bare_fetches xs (Write t n) w = omega arith
bare_fetches xs Flush w = tt
bare_fetches xs (Switch on) w = tt
bare_fetches xs Idle w = tt
bare_fetches xs Unknown w = tt

-- a buffer for words serves IDENTIFY DEVICE alone
pub bare_words : (xs : List ℕ) (x : Order) → (x ≡ Identify → ⊥) → Bare (fetches_words xs) (meant x)
bare_words xs Identify w = absurd (w refl)
bare_words xs (Read n) w = omega arith
bare_words xs (Verify n) w = tt
bare_words xs (Write t n) w = omega arith
bare_words xs Flush w = tt
bare_words xs (Switch on) w = tt
bare_words xs Idle w = tt
bare_words xs Unknown w = tt
