-- A drive as a machine of steps: what a step shows, what it leaves on the medium, and how power ends it.
use Rattle.std.specs.Prelude.{ℕ, zero, suc, ◌+◌, min, Bool, false, cond, List, [], ◌∷◌, ◌++◌, Some, None, Option, slice_index_or, slice_set, Ok, Err, Result}
use Rattle.ata.specs.declared.answer.Stop.{Stop}
use Rattle.ata.specs.declared.answer.Stop.TheVariants.{Unreadable, Cut}

-- How a step ended: it was done, or stopped by an unreadable block or for want of power.
abbrev pub End : Type 0
End = Result (Unit {0}) Stop

-- What a block holds: 512 bytes, or nothing that can be read.
pub data Content : Type 0 where
  unreadable : Content
  bytes : List ℕ → Content

-- The blocks: the face is what a read gives, the medium what lasts without power. While the drive is caching, writes may wait.
pub record Store : Type 0 where
  pub face : List Content
  pub medium : List Content
  pub caching : Bool

-- A lit drive has power, for as many steps as are left, or for ever where none is said.
pub record Machine : Type 0 where
  pub store : Store
  pub lit : Bool
  pub left : Option ℕ
  pub errors : ℕ

-- A write goes through to the medium where its flag is set. Switching the cache off flushes.
pub data Step : Type 0 where
  read_step : ℕ → Step
  verify_step : ℕ → Step
  write_step : Bool → ℕ → Content → Step
  flush_step : Step
  cache_step : Bool → Step
  idle_step : Step

-- What a drive is free to do at a step: before it, any faces may go to their medium.
pub record Choice : Type 0 where
  pub settles : ℕ → Bool

-- One choice for each step of a command.
abbrev pub Oracle : Type 0
Oracle = ℕ → Choice

-- What a step with power shows, which the faces alone decide.
pub record Look : Type 0 where
  pub end : End
  pub given : List ℕ
  pub face : List Content

abbrev pub shown : List Content → Look
shown f = record { end = (Ok tt); given = []; face = f }

abbrev pub end_of_read : Content → ℕ → End
end_of_read (bytes xs) b = (Ok tt)
end_of_read unreadable b = Err (Unreadable b)

abbrev pub bytes_of_read : Content → List ℕ
bytes_of_read (bytes xs) = xs
bytes_of_read unreadable = []

abbrev pub look : Step → List Content → Look
look (read_step b) f = record { end = end_of_read (slice_index_or f b unreadable) b; given = bytes_of_read (slice_index_or f b unreadable); face = f }
look (verify_step b) f = record { end = end_of_read (slice_index_or f b unreadable) b; given = []; face = f }
look (write_step t b c) f = shown (slice_set f b c)
look flush_step f = shown f
look (cache_step on) f = shown f
look idle_step f = shown f

-- What it leaves on the medium, from caching, faces and medium before it.
abbrev pub sinks : Step → Bool → List Content → List Content → List Content
sinks (read_step b) on f d = d
sinks (verify_step b) on f d = d
sinks (write_step t b c) on f d = cond t (slice_set d b c) (cond on d (slice_set d b c))
sinks flush_step on f d = f
sinks (cache_step to) on f d = cond to d f
sinks idle_step on f d = d

abbrev pub caches : Step → Bool → Bool
caches (read_step b) on = on
caches (verify_step b) on = on
caches (write_step t b c) on = on
caches flush_step on = on
caches (cache_step to) on = to
caches idle_step on = on

-- The count of errors stays at its top, 2^32 - 1.
abbrev pub one_error_more : ℕ → ℕ
one_error_more e = min (e + 1) 4294967295

abbrev pub scored : End → ℕ → ℕ
scored (Ok tt) e = e
scored (Err (Unreadable b)) e = one_error_more e
scored (Err Cut) e = e

pub record Outcome : Type 0 where
  pub end : End
  pub given : List ℕ
  pub machine : Machine

abbrev pub ends : End → List ℕ → Machine → Outcome
ends e g m = record { end = e; given = g; machine = m }

abbrev pub stored : Step → Store → Store
stored x s =
    record { face = (look x s.face).face; medium = sinks x s.caching s.face s.medium; caching = caches x s.caching }

-- A step with power, of which l steps are then left.
abbrev pub act : Step → Option ℕ → Machine → Outcome
act x l m =
    ends (look x m.store.face).end (look x m.store.face).given
    (record { store = stored x m.store; lit = m.lit; left = l; errors = scored (look x m.store.face).end m.errors })

-- The medium after the drive has put the chosen faces on it.
abbrev pub settle : (ℕ → Bool) → ℕ → List Content → List Content → List Content
settle s i [] ds = ds
settle s i (f ∷ fs) [] = []
settle s i (f ∷ fs) (d ∷ ds) = cond (s i) f d ∷ settle s (suc i) fs ds

abbrev pub settled : Choice → Machine → Machine
settled c m =
    record {
      store = record { face = m.store.face; medium = settle c.settles 0 m.store.face m.store.medium; caching = m.store.caching };
      lit = m.lit;
      left = m.left;
      errors = m.errors;
    }

-- Without power only the medium is left.
abbrev pub darkened : Machine → Machine
darkened m =
    record {
      store = record { face = m.store.medium; medium = m.store.medium; caching = m.store.caching };
      lit = false;
      left = m.left;
      errors = m.errors;
    }

-- One step's power: at 0 steps left it fails, and the step is not done.
abbrev pub powered : Option ℕ → Step → Machine → Outcome
powered None x m = act x None m
powered (Some zero) x m = ends (Err Cut) [] (darkened m)
powered (Some (suc n)) x m = act x (Some n) m

abbrev pub step : Choice → Step → Machine → Outcome
step c x m = powered m.left x (settled c m)

-- What comes after a step that ended so.
abbrev pub next : End → List ℕ → Machine → (Machine → Outcome) → Outcome
next (Ok tt) g m rest = ends (rest m).end (g ++ (rest m).given) (rest m).machine
next (Err (Unreadable b)) g m rest = ends (Err (Unreadable b)) g m
next (Err Cut) g m rest = ends (Err Cut) g m

-- Steps one after another, up to the first that is not done.
abbrev pub steps : Oracle → List Step → Machine → Outcome
steps o [] m = ends (Ok tt) [] m
steps o (x ∷ xs) m =
    next (step (o 0) x m).end (step (o 0) x m).given (step (o 0) x m).machine (λ n. steps (λ k. o (suc k)) xs n)

-- How many of the steps were begun.
abbrev pub begun_after : End → ℕ → ℕ
begun_after (Ok tt) n = suc n
begun_after (Err (Unreadable b)) n = 1
begun_after (Err Cut) n = 1

abbrev pub begun : Oracle → List Step → Machine → ℕ
begun o [] m = 0
begun o (x ∷ xs) m = begun_after (step (o 0) x m).end (begun (λ k. o (suc k)) xs (step (o 0) x m).machine)
