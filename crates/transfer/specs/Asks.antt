-- What READ, WRITE and the commands without data ask of a drive.
use Rattle.std.specs.Prelude.{ℕ, zero, suc, ◌+◌, ◌-◌, ◌*◌, ◌/◌, min, Bool, true, false, List, [], ◌∷◌, ◌++◌, length, take, drop, Some, None, Ok, Err, Option}
use Rattle.ata.specs.declared.task.TaskFile.{TaskFile}
use Rattle.ata.specs.Commands.{nothing, sends, fetches}
use Rattle.transfer.specs.declared.tasks.Width.{Width}
use Rattle.transfer.specs.declared.writing.Force.{Force}
use Rattle.transfer.specs.declared.writing.Force.TheVariants.{Cached, Through, Flushed}
use Rattle.transfer.specs.Tasks.{read_task, write_task, flush_task}
use Rattle.transfer.specs.Talk.{Ask, Verdict}

abbrev pub nothing_gained : Verdict → ℕ
nothing_gained r = 0

-- a command without data
abbrev pub plain_ask : TaskFile → Ask
plain_ask t = record { task = t; carry = λ _. nothing; gains = nothing_gained; at = 0; len = 0 }

abbrev pub plain_asks : List TaskFile → List Ask
plain_asks [] = []
plain_asks (t ∷ ts) = plain_ask t ∷ plain_asks ts

-- Of n blocks from b on: all, or those before the one that is named.
abbrev pub gained_before : ℕ → ℕ → Option ℕ → ℕ
gained_before b n None = 0
gained_before b n (Some x) = 512 * min n (x - b)

abbrev pub read_gains : ℕ → ℕ → Verdict → ℕ
read_gains b n (Ok u) = 512 * n
read_gains b n (Err f) = gained_before b n f.block

-- a piece of a read, into its part of data-in
abbrev pub read_ask : Width → ℕ → ℕ → ℕ → Ask
read_ask w b n at = record { task = read_task w b n; carry = fetches; gains = read_gains b n; at = at; len = 512 * n }

abbrev pub sent_ask : Width → Bool → List ℕ → ℕ → ℕ → Ask
sent_ask w through ys b n = record { task = write_task w through b n; carry = λ _. sends ys; gains = nothing_gained; at = 0; len = 0 }

-- a piece of a write, with its part of data-out
abbrev pub write_ask : Width → Bool → List ℕ → ℕ → ℕ → ℕ → Ask
write_ask w through xs b n at = sent_ask w through (take (512 * n) (drop at xs)) b n

-- A range of n blocks in pieces of t, the last one shorter. Each piece is asked by its address, its blocks and its place in the data.
unfoldable pub cut : ℕ → (ℕ → ℕ → ℕ → Ask) → ℕ → ℕ → ℕ → ℕ → List Ask
cut zero ask t b n at = []
cut (suc fuel) ask t b zero at = []
cut (suc fuel) ask t b (suc n) at =
    ask b (min t (suc n)) at ∷ cut fuel ask t (b + min t (suc n)) (suc n - min t (suc n)) (at + 512 * min t (suc n))

unfoldable pub pieces : (ℕ → ℕ → ℕ → Ask) → ℕ → ℕ → ℕ → ℕ → List Ask
pieces ask t b n at = cut n ask t b n at

-- a flush beside a transfer of n blocks, where it is wanted: none beside an empty one
abbrev pub flush_beside : Width → Bool → ℕ → List Ask
flush_beside w false n = []
flush_beside w true zero = []
flush_beside w true (suc n) = plain_ask (flush_task w) ∷ []

-- READ: with FUA what waits in the cache goes to the medium first
abbrev pub read_asks : Width → Bool → ℕ → ℕ → ℕ → List Ask
read_asks w fua t b n = flush_beside w fua n ++ pieces (read_ask w) t b n 0

-- how a WRITE reaches the medium: through the cache, or by a flush after it
abbrev pub goes_through : Force → Bool
goes_through Cached = false
goes_through Through = true
goes_through Flushed = false

abbrev pub is_flushed : Force → Bool
is_flushed Cached = false
is_flushed Through = false
is_flushed Flushed = true

abbrev pub write_asks : Width → Force → ℕ → ℕ → List ℕ → List Ask
write_asks w force t b xs =
    pieces (write_ask w (goes_through force) xs) t b (length xs / 512) 0 ++ flush_beside w (is_flushed force) (length xs / 512)
