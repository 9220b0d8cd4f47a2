-- What steps keep, and what a step that is not done leaves of a buffer.
use Rattle.std.proofs.Common.{◌≡◌, ℕ, List, [], refl, ◌∙◌, Ok, Err}
use Rattle.ata.specs.Machine.{End}
use Rattle.image_disk.specs.Held.{Held, Kept, put, Untouched}

pub kept_on : (h j k : Held) → Kept h j → Kept j k → Kept h k
kept_on h j k p q = record { claims = q.claims ∙ p.claims; orders = q.orders ∙ p.orders }

pub put_none : (z : End) (new : List ℕ) → (z ≡ Ok tt → ⊥) → put z new ≡ []
put_none (Ok tt) new w = absurd (w refl)
put_none (Err s) new w = refl

pub untouched_is : (z : End) (was new : List ℕ) → (z ≡ Ok tt → ⊥) → Untouched z was new → new ≡ was
untouched_is (Ok tt) was new w h = absurd (w refl)
untouched_is (Err s) was new w h = h
