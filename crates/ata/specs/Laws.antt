-- What holds of every drive, whatever it does with its freedom.
use Rattle.std.specs.Prelude.{◌≡◌, ℕ, ◌+◌, ◌<◌, ◌≤◌, true, false, List, [], ◌∷◌, ◌++◌, length, None, slice_index_or, Ok}
use Rattle.ata.specs.Machine.{Content, unreadable, Machine, Step, flush_step, cache_step, Oracle, Outcome, Look, steps, next}
use Rattle.ata.specs.Commands.{writes}

-- With the cache off, or the power gone, every face is on its medium.
pub record Level (m : Machine) : Type 0 where
  pub even : length m.store.medium ≡ length m.store.face
  pub off : m.store.caching ≡ false → m.store.medium ≡ m.store.face
  pub dark : m.lit ≡ false → m.store.medium ≡ m.store.face

abbrev pub StaysLevel : Type 0
StaysLevel = (o : Oracle) (xs : List Step) (m : Machine) → m.lit ≡ true → Level m → Level (steps o xs m).machine

-- A flush that was done, and the cache switched off, leave every face on its medium.
abbrev pub FlushSettles : Type 0
FlushSettles =
    (o : Oracle) (m : Machine) →
    ((steps o (flush_step ∷ []) m).end ≡ Ok tt → (steps o (flush_step ∷ []) m).machine.store.medium ≡ (steps o (flush_step ∷ []) m).machine.store.face)
    × ((steps o (cache_step false ∷ []) m).end ≡ Ok tt → (steps o (cache_step false ∷ []) m).machine.store.medium ≡ (steps o (cache_step false ∷ []) m).machine.store.face)

abbrev pub Settled : ℕ → Machine → Type 0
Settled k m = slice_index_or m.store.medium k unreadable ≡ slice_index_or m.store.face k unreadable

-- A write through the cache that was done leaves each face that it wrote on its medium.
abbrev pub ThroughSettles : Type 0
ThroughSettles =
    (o : Oracle) (cs : List Content) (b k : ℕ) (m : Machine) → length m.store.medium ≡ length m.store.face → b + length cs ≤ length m.store.face → b ≤ k → k < b + length cs →
    (steps o (writes true b cs) m).end ≡ Ok tt → Settled k (steps o (writes true b cs) m).machine

-- what a host can see of an outcome
abbrev pub seen : Outcome → Look
seen r = record { end = r.end; given = r.given; face = r.machine.store.face }

-- While no power failure is pending, a host sees the same whatever the drive chooses.
abbrev pub FreedomUnseen : Type 0
FreedomUnseen = (o p : Oracle) (xs : List Step) (m : Machine) → m.left ≡ None → seen (steps o xs m) ≡ seen (steps p xs m)

-- Steps in two pieces, each with its choices, are the whole with some choices: its end, its bytes and all of the drive.
abbrev pub PiecesJoin : Type 0
PiecesJoin =
    (xs ys : List Step) (p q : Oracle) → (o : Oracle) × ((m : Machine) → steps o (xs ++ ys) m ≡ next (steps p xs m).end (steps p xs m).given (steps p xs m).machine (λ n. steps q ys n))
