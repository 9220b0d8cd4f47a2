-- What a drive is to whoever commands it, and what each command does to it.
use Rattle.std.specs.Prelude.{◌≡◌, ℕ, zero, suc, ◌+◌, ◌*◌, ◌^◌, ◌<◌, ◌≤◌, min, Bool, true, false, cond, ◌||◌, List, [], ◌∷◌, ◌++◌, length, take, drop, Some, None, bit_and, nat_lt, slice_index_or, Ok, Err}
use Rattle.ata.specs.Machine.{End}
use Rattle.ata.specs.declared.answer.Stop.TheVariants.{Unreadable, Cut}
use Rattle.ata.specs.declared.answer.Answer.{Answer}
use Rattle.ata.specs.declared.task.TaskFile.{TaskFile}
use Rattle.ata.specs.declared.task.AtaCommand.{AtaCommand}
use Rattle.ata.specs.declared.task.AtaCommand.TheVariants.{IdentifyDevice, ReadDma, ReadDmaExt, WriteDma, WriteDmaExt, WriteDmaFuaExt, ReadVerify, ReadVerifyExt, FlushCache, FlushCacheExt, SetFeatures, StandbyImmediate, CheckPowerMode, Unlisted}
use Rattle.ata.specs.declared.task.Feature.{Feature}
use Rattle.ata.specs.declared.task.Feature.TheVariants.{Absent, EnableWriteCache, DisableWriteCache, Unlisted as OtherFeature}
use Rattle.ata.specs.Machine.{Content, unreadable, bytes, Machine, Step, read_step, verify_step, write_step, flush_step, cache_step, idle_step, Oracle, Outcome, steps}
use Rattle.ata.specs.Words.{word, wide, cached, through, blocks_of, count_limit, showing}

-- The words as they are with the cache off, the most blocks one command may move, the commands taken so far, and the rest.
pub record State : Type 0 where
  pub words : List ℕ
  pub most : ℕ
  pub orders : ℕ
  pub machine : Machine

abbrev pub size : State → ℕ
size s = length s.machine.store.face

abbrev pub Sector : Content → Type 0
Sector unreadable = Unit {0}
Sector (bytes xs) = length xs ≡ 512

-- What holds of every drive at every time.
pub record Formed (s : State) : Type 0 where
  pub words_long : length s.words ≡ 256
  pub cache_bit_clear : bit_and (word s.words 85) 32 ≡ 0
  pub blocks_true : blocks_of s.words ≡ size s
  pub through_wide : through s.words ≡ true → wide s.words ≡ true
  pub most_some : 0 < s.most
  pub most_fits : s.most ≤ count_limit (wide s.words)
  pub orders_top : s.orders < 2 ^ 64
  pub errors_top : s.machine.errors < 2 ^ 32
  pub level : length s.machine.store.medium ≡ size s
  pub cache_claimed : s.machine.store.caching ≡ true → cached s.words ≡ true
  pub off : s.machine.store.caching ≡ false → s.machine.store.medium ≡ s.machine.store.face
  pub dark : s.machine.lit ≡ false → s.machine.store.medium ≡ s.machine.store.face
  pub sectors : (k : ℕ) → Sector (slice_index_or s.machine.store.face k unreadable)

abbrev pub with_machine : State → Machine → State
with_machine s m = record { words = s.words; most = s.most; orders = s.orders; machine = m }

-- One command more, counted up to 2^64 - 1.
abbrev pub one_order_more : ℕ → ℕ
one_order_more n = min (n + 1) 18446744073709551615

abbrev pub ordered : State → State
ordered s = record { words = s.words; most = s.most; orders = one_order_more s.orders; machine = s.machine }

abbrev pub says : ℕ → ℕ → ℕ → Answer
says s e b = record { status = s; error = e; block = b }

abbrev pub success : Answer
success = says 64 0 0

abbrev pub no_answer : Answer
no_answer = says 0 0 0

abbrev pub answered : End → Answer
answered (Ok tt) = success
answered (Err (Unreadable b)) = says 65 64 b
answered (Err Cut) = no_answer

-- What goes with a task file: nothing, data to the drive, or a buffer for data, or for words, from it.
pub data Load : Type 0 where
  nothing : Load
  sends : List ℕ → Load
  fetches : List ℕ → Load
  fetches_words : List ℕ → Load

abbrev pub outgoing : Load → List ℕ
outgoing nothing = []
outgoing (sends xs) = xs
outgoing (fetches xs) = []
outgoing (fetches_words xs) = []

abbrev pub incoming : Load → List ℕ
incoming nothing = []
incoming (sends xs) = []
incoming (fetches xs) = xs
incoming (fetches_words xs) = []

abbrev pub incoming_words : Load → List ℕ
incoming_words nothing = []
incoming_words (sends xs) = []
incoming_words (fetches xs) = []
incoming_words (fetches_words xs) = xs

-- the buffer that the drive may write into
abbrev pub room : Load → List ℕ
room nothing = []
room (sends xs) = []
room (fetches xs) = xs
room (fetches_words xs) = xs

-- What a command leaves: its answer, the drive and the buffer.
pub record Gave : Type 0 where
  pub answer : Answer
  pub state : State
  pub buffer : List ℕ

abbrev pub gives : Answer → State → List ℕ → Gave
gives a s b = record { answer = a; state = s; buffer = b }

-- Aborted, it is not counted.
abbrev pub aborted : State → List ℕ → Gave
aborted s b = gives (says 65 4 0) s b

abbrev pub over : List ℕ → List ℕ → List ℕ
over g b = g ++ drop (length g) b

abbrev pub ran : State → List ℕ → Outcome → Gave
ran s b r = gives (answered r.end) (with_machine (ordered s) r.machine) (over r.given b)

-- The steps of a transfer, one for each block, in rising order.
unfoldable pub reads : ℕ → ℕ → List Step
reads b zero = []
reads b (suc n) = read_step b ∷ reads (suc b) n

unfoldable pub verifies : ℕ → ℕ → List Step
verifies b zero = []
verifies b (suc n) = verify_step b ∷ verifies (suc b) n

-- the first n blocks of data
unfoldable pub blocks : ℕ → List ℕ → List Content
blocks zero xs = []
blocks (suc n) xs = bytes (take 512 xs) ∷ blocks n (drop 512 xs)

unfoldable pub writes : Bool → ℕ → List Content → List Step
writes t b [] = []
writes t b (c ∷ cs) = write_step t b c ∷ writes t (suc b) cs

-- What a drive takes a task file for.
pub data Order : Type 0 where
  identify : Order
  read : ℕ → Order
  verify : ℕ → Order
  write : Bool → ℕ → Order
  flush : Order
  switch : Bool → Order
  idle : Order
  unknown : Order

-- A count of 0 stands for the most that the field could name.
abbrev pub named : ℕ → ℕ → ℕ
named limit zero = limit
named limit (suc c) = suc c

abbrev pub switched_by : Feature → Order
switched_by Absent = unknown
switched_by EnableWriteCache = switch true
switched_by DisableWriteCache = switch false
switched_by OtherFeature = unknown

abbrev pub taken : List ℕ → AtaCommand → Feature → ℕ → Order
taken ws IdentifyDevice f c = identify
taken ws ReadDma f c = read (named 256 c)
taken ws ReadDmaExt f c = cond (wide ws) (read (named 65536 c)) unknown
taken ws WriteDma f c = write false (named 256 c)
taken ws WriteDmaExt f c = cond (wide ws) (write false (named 65536 c)) unknown
taken ws WriteDmaFuaExt f c = cond (through ws) (write true (named 65536 c)) unknown
taken ws ReadVerify f c = verify (named 256 c)
taken ws ReadVerifyExt f c = cond (wide ws) (verify (named 65536 c)) unknown
taken ws FlushCache f c = flush
taken ws FlushCacheExt f c = cond (wide ws) flush unknown
taken ws SetFeatures f c = cond (cached ws) (switched_by f) unknown
taken ws StandbyImmediate f c = idle
taken ws CheckPowerMode f c = idle
taken ws Unlisted f c = unknown

-- More blocks than one command may move, or too short a buffer, is aborted; then blocks past the end are refused.
abbrev pub moves : State → ℕ → ℕ → Bool → List ℕ → Gave → Gave
moves s b n short buffer run =
    cond (nat_lt s.most n || short) (aborted s buffer)
    (cond (nat_lt (size s) (b + n)) (gives (says 65 16 (size s)) (ordered s) buffer) run)

-- IDENTIFY DEVICE needs room for 256 words, and leaves it alone where power fails.
abbrev pub told : End → List ℕ → List ℕ → List ℕ
told (Ok tt) ws buffer = over ws buffer
told (Err (Unreadable b)) ws buffer = buffer
told (Err Cut) ws buffer = buffer

abbrev pub tells : State → List ℕ → Outcome → Gave
tells s buffer r =
    gives (answered r.end) (with_machine (ordered s) r.machine) (told r.end (showing s.machine.store.caching s.words) buffer)

abbrev pub obeys : Oracle → State → ℕ → Load → Order → Gave
obeys o s b l identify = cond (nat_lt (length (incoming_words l)) 256) (aborted s (room l)) (tells s (room l) (steps o (idle_step ∷ []) s.machine))
obeys o s b l (read n) = moves s b n (nat_lt (length (incoming l)) (512 * n)) (room l) (ran s (room l) (steps o (reads b n) s.machine))
obeys o s b l (verify n) = moves s b n false (room l) (ran s (room l) (steps o (verifies b n) s.machine))
obeys o s b l (write t n) = moves s b n (nat_lt (length (outgoing l)) (512 * n)) (room l) (ran s (room l) (steps o (writes t b (blocks n (outgoing l))) s.machine))
obeys o s b l flush = ran s (room l) (steps o (flush_step ∷ []) s.machine)
obeys o s b l (switch on) = ran s (room l) (steps o (cache_step on ∷ []) s.machine)
obeys o s b l idle = ran s (room l) (steps o (idle_step ∷ []) s.machine)
obeys o s b l unknown = aborted s (room l)

-- A task file, with what goes with it. A dark drive counts it and gives no answer.
unfoldable pub perform : Oracle → State → TaskFile → Load → Gave
perform o s t l =
    cond s.machine.lit (obeys o s t.block l (taken s.words t.command t.feature t.count))
    (gives no_answer (ordered s) (room l))

-- A cut sets the steps until power fails, on a lit drive.
abbrev pub cut_by : ℕ → State → State
cut_by n s =
    with_machine s
    (record { store = s.machine.store; lit = s.machine.lit; left = cond s.machine.lit (Some n) s.machine.left; errors = s.machine.errors })

-- The return of power, to a dark drive: it lasts, and the cache is on where there is one.
abbrev pub lit_again : State → State
lit_again s =
    with_machine s
    (record {
      store = record { face = s.machine.store.face; medium = s.machine.store.medium; caching = cached s.words };
      lit = true;
      left = None;
      errors = s.machine.errors;
    })

abbrev pub returned : State → State
returned s = cond s.machine.lit s (lit_again s)
