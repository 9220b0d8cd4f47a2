-- What a transfer is to the blocks, free of pieces: a list of steps, and how its end, its bytes and its commands are told.
use Rattle.std.specs.Prelude.{◌≡◌, ℕ, zero, suc, ◌+◌, ◌-◌, ◌*◌, ◌/◌, min, Bool, true, false, List, [], ◌∷◌, ◌++◌, length, Some, None, Ok, Err}
use Rattle.ata.specs.Machine.{End}
use Rattle.ata.specs.declared.answer.Stop.TheVariants.{Unreadable, Cut}
use Rattle.ata.specs.Machine.{Content, Machine, Step, flush_step, idle_step, Oracle, Look, shown, steps, begun}
use Rattle.ata.specs.Commands.{State, reads, writes, over}
use Rattle.ata.specs.Shows.{read_shows, write_shows}
use Rattle.sense.specs.declared.case.Sense.TheVariants.{NoAnswer, Unreadable}
use Rattle.transfer.specs.declared.counts.Tally.{Tally}
use Rattle.transfer.specs.declared.writing.Force.{Force}
use Rattle.transfer.specs.Talk.{Verdict, failed}
use Rattle.transfer.specs.Asks.{goes_through, is_flushed}

abbrev pub flush_steps : Bool → ℕ → List Step
flush_steps false n = []
flush_steps true zero = []
flush_steps true (suc n) = flush_step ∷ []

-- how many those are
abbrev pub flushes : Bool → ℕ → ℕ
flushes false n = 0
flushes true zero = 0
flushes true (suc n) = 1

-- READ: with FUA, of at least one block, what waits goes to the medium first
abbrev pub read_steps : Bool → ℕ → ℕ → List Step
read_steps fua b n = flush_steps fua n ++ reads b n

-- WRITE: through the cache, or with a flush after it, as it is forced
abbrev pub write_steps : Force → ℕ → List Content → List Step
write_steps force b cs = writes (goes_through force) b cs ++ flush_steps (is_flushed force) (length cs)

abbrev pub told_by : End → Verdict
told_by (Ok tt) = Ok tt
told_by (Err (Unreadable x)) = failed Unreadable (Some x)
told_by (Err Cut) = failed NoAnswer None

-- the bytes that count: all that were given, but after no answer only those of the commands that were finished
abbrev pub bytes_by : End → ℕ → ℕ → ℕ
bytes_by (Ok tt) given finished = given
bytes_by (Err (Unreadable x)) given finished = given
bytes_by (Err Cut) given finished = finished

-- how many pieces of t blocks hold j blocks
abbrev pub pieces_of : ℕ → ℕ → ℕ
pieces_of t j = (j + (t - 1)) / t

-- the commands that j steps make, of a transfer of n blocks in pieces of t with `before` flushes before it
abbrev pub commands_by : ℕ → ℕ → ℕ → ℕ → ℕ
commands_by t before n j = min j before + pieces_of t (min (j - before) n) + (j - before - n)

abbrev pub read_commands : ℕ → Bool → ℕ → ℕ → ℕ
read_commands t fua n = commands_by t (flushes fua n) n

abbrev pub write_commands : ℕ → ℕ → ℕ → ℕ
write_commands t n = commands_by t 0 n

-- the bytes of the pieces that were finished when power failed at step j
abbrev pub finished_by : ℕ → ℕ → ℕ → ℕ
finished_by t before j = 512 * (t * ((j - before - 1) / t))

abbrev pub read_finished : ℕ → Bool → ℕ → ℕ → ℕ
read_finished t fua n = finished_by t (flushes fua n)

abbrev pub none_finished : ℕ → ℕ
none_finished j = 0

-- The work that a command is to the blocks: its steps, the commands that the first j of them make, the bytes of the commands
-- finished when power fails at step j, and what the steps show, from the faces, while power lasts.
pub record Work : Type 0 where
  pub steps : List Step
  pub commands : ℕ → ℕ
  pub finished : ℕ → ℕ
  pub shows : List Content → Look

-- READ of n blocks from b on, in pieces of t: it gives them up to the first that cannot be read
abbrev pub read_work : ℕ → Bool → ℕ → ℕ → Work
read_work t fua b n =
    record { steps = read_steps fua b n; commands = read_commands t fua n; finished = read_finished t fua n; shows = read_shows b n }

-- WRITE of contents from b on: they are put over those that were there
abbrev pub write_work : ℕ → Force → ℕ → List Content → Work
write_work t force b cs =
    record { steps = write_steps force b cs; commands = write_commands t (length cs); finished = none_finished; shows = write_shows b cs }

-- a command that does nothing to the blocks
abbrev pub idle_work : ℕ → Work
idle_work t = record { steps = idle_step ∷ []; commands = commands_by t 1 0; finished = none_finished; shows = shown }

-- n commands more, counted up to 2^64 - 1, and the machine after them
abbrev pub after_commands : State → ℕ → Machine → State
after_commands s n m =
    record { words = s.words; most = s.most; orders = min (s.orders + n) 18446744073709551615; machine = m }

-- The drive s went through the steps xs, by some choices of its own, and became t; data-in, tally and verdict follow.
pub record Stepped (s : State) (xs : List Step) (commands finished : ℕ → ℕ) (buffer : List ℕ) (t : State) (end : List ℕ) (q : Tally) (r : Verdict) : Type 0 where
  pub choices : Oracle
  pub state : t ≡ after_commands s q.commands (steps choices xs s.machine).machine
  pub data_in : end ≡ over (steps choices xs s.machine).given buffer
  pub verdict : r ≡ told_by (steps choices xs s.machine).end
  pub counted : q.commands ≡ commands (begun choices xs s.machine)
  pub bytes : q.bytes ≡ bytes_by (steps choices xs s.machine).end (length (steps choices xs s.machine).given) (finished (begun choices xs s.machine))
