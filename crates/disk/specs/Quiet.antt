-- The steps of a drive that puts no face on its medium by itself, and how far a run of them has come.
use Rattle.std.specs.Prelude.{◌≡◌, ℕ, false, List, ◌++◌, drop}
use Rattle.ata.specs.Machine.{End}
use Rattle.ata.specs.Machine.{Machine, Step, Choice, Oracle, Outcome, ends, steps}
use Rattle.ata.specs.Commands.{over}

abbrev pub still : Choice
still = record { settles = λ _. false }

abbrev pub quiet : Oracle
quiet = λ _. still

abbrev pub prefixed : List ℕ → Outcome → Outcome
prefixed g r = ends r.end (g ++ r.given) r.machine

-- From the machine m, the first i of the steps are done: they gave g, and left the machine n.
abbrev pub Reached : List Step → Machine → ℕ → List ℕ → Machine → Type 0
Reached xs m i g n = steps quiet xs m ≡ prefixed g (steps quiet (drop i xs) n)

-- A run that ended so, left the machine m, and put what it gave over the front of a buffer.
pub record Filled (r : Outcome) (e : End) (m : Machine) (was new : List ℕ) : Type 0 where
  pub ended : r.end ≡ e
  pub machine : r.machine ≡ m
  pub buffer : new ≡ over r.given was
