-- What a port makes of a command.
use Rattle.std.proofs.Common.{◌≡◌, ℕ, ◌+◌, ◌*◌, ◌<◌, ◌≤◌, min, Bool, true, false, cond, ◌&&◌, ◌||◌, ltb, ◌⊎◌, List, length, sym, refl, ap, ◌∙◌, inl, inr, arith}
use Rattle.std.proofs.lemmas.Bool.Decides.{nat_tests}
use Rattle.ata.specs.declared.answer.Answer.{Answer}
use Rattle.ata.specs.declared.task.TaskFile.{TaskFile}
use Rattle.ata.specs.declared.task.AtaCommand.{AtaCommand}
use Rattle.ata.specs.declared.task.AtaCommand.TheVariants.{IdentifyDevice, ReadDma, ReadDmaExt, WriteDma, WriteDmaExt, WriteDmaFuaExt, ReadVerify, ReadVerifyExt, FlushCache, FlushCacheExt, SetFeatures, StandbyImmediate, CheckPowerMode, Unlisted}
use Rattle.ata.specs.declared.task.Feature.{Feature}
use Rattle.ata.specs.declared.task.Feature.TheVariants.{Absent, EnableWriteCache, DisableWriteCache, Unlisted as OtherFeature}
use Rattle.ata.specs.Machine.{Oracle, steps}
use Rattle.ata.specs.Words.{wide, cached, through}
use Rattle.ata.specs.Commands.{State, Gave, Load, gives, says, aborted, no_answer, ordered, room, incoming, outgoing, incoming_words, size, moves, reads, verifies, writes, blocks, ran, named, Order, identify, read, verify, write, flush, switch, idle, unknown, taken, switched_by, obeys, perform}
use Rattle.ata.specs.Exchange.{exchange, Agrees}
use Rattle.port.specs.Limits.{limited, names}

-- a result with its drive behind the port
abbrev behind : ℕ → Gave → Gave
behind k g = gives g.answer (limited k g.state) g.buffer

-- how many blocks an order moves
abbrev moved : Order → ℕ
moved identify = 0
moved (read n) = n
moved (verify n) = n
moved (write t n) = n
moved flush = 0
moved (switch on) = 0
moved idle = 0
moved unknown = 0

choose_low : (v : Bool) (x : Order) (n : ℕ) → moved x ≤ n → moved (cond v x unknown) ≤ n
choose_low true x n h = h
choose_low false x n h = omega arith

switched_none : (f : Feature) → moved (switched_by f) ≤ 0
switched_none Absent = omega arith
switched_none EnableWriteCache = omega arith
switched_none DisableWriteCache = omega arith
switched_none OtherFeature = omega arith

-- no more than the task file names
taken_low : (ws : List ℕ) (c : AtaCommand) (f : Feature) (n : ℕ) → moved (taken ws c f n) ≤ names c n
taken_low ws IdentifyDevice f n = omega arith
taken_low ws ReadDma f n = omega arith
taken_low ws ReadDmaExt f n = choose_low (wide ws) (read (named 65536 n)) (named 65536 n) (omega arith)
taken_low ws WriteDma f n = omega arith
taken_low ws WriteDmaExt f n = choose_low (wide ws) (write false (named 65536 n)) (named 65536 n) (omega arith)
taken_low ws WriteDmaFuaExt f n = choose_low (through ws) (write true (named 65536 n)) (named 65536 n) (omega arith)
taken_low ws ReadVerify f n = omega arith
taken_low ws ReadVerifyExt f n = choose_low (wide ws) (verify (named 65536 n)) (named 65536 n) (omega arith)
taken_low ws FlushCache f n = omega arith
taken_low ws FlushCacheExt f n = choose_low (wide ws) flush 0 (omega arith)
taken_low ws SetFeatures f n = choose_low (cached ws) (switched_by f) 0 (switched_none f)
taken_low ws StandbyImmediate f n = omega arith
taken_low ws CheckPowerMode f n = omega arith
taken_low ws Unlisted f n = omega arith

moves_behind : (k : ℕ) (s : State) (b n : ℕ) (short : Bool) (buffer : List ℕ) (go go' : Gave) → n ≤ k → go' ≡ behind k go → moves (limited k s) b n short buffer go' ≡ behind k (moves s b n short buffer go)
moves_behind k s b n short buffer go go' h e =
    let i : ltb (min s.most k) n ≡ ltb s.most n = grind (arith, nat_tests) in
    ap (λ (v : Bool). cond (v || short) (aborted (limited k s) buffer) (cond (ltb (size s) (b + n)) (gives (says 65 16 (size s)) (ordered (limited k s)) buffer) go')) i
    ∙ ap (λ (g : Gave). cond (ltb s.most n || short) (aborted (limited k s) buffer) (cond (ltb (size s) (b + n)) (gives (says 65 16 (size s)) (ordered (limited k s)) buffer) g)) e
    ∙ by (ltb s.most n || short) (ltb (size s) (b + n))
  where
    by : (u v : Bool) → cond u (aborted (limited k s) buffer) (cond v (gives (says 65 16 (size s)) (ordered (limited k s)) buffer) (behind k go)) ≡ behind k (cond u (aborted s buffer) (cond v (gives (says 65 16 (size s)) (ordered s) buffer) go))
    by true v = refl
    by false true = refl
    by false false = refl

either : (k : ℕ) (v : Bool) (x x' y y' : Gave) → (v ≡ true → x ≡ behind k x') → y ≡ behind k y' → cond v x y ≡ behind k (cond v x' y')
either k true x x' y y' a b = a refl
either k false x x' y y' a b = b

obeys_behind : (k : ℕ) (o : Oracle) (s : State) (b : ℕ) (l : Load) (x : Order) → moved x ≤ k → obeys o (limited k s) b l x ≡ behind k (obeys o s b l x)
obeys_behind k o s b l identify h = either k (ltb (length (incoming_words l)) 256) (aborted (limited k s) (room l)) (aborted s (room l)) _ _ (λ _. refl) refl
obeys_behind k o s b l (read n) h = moves_behind k s b n (ltb (length (incoming l)) (512 * n)) (room l) _ _ h refl
obeys_behind k o s b l (verify n) h = moves_behind k s b n false (room l) _ _ h refl
obeys_behind k o s b l (write t n) h = moves_behind k s b n (ltb (length (outgoing l)) (512 * n)) (room l) _ _ h refl
obeys_behind k o s b l flush h = refl
obeys_behind k o s b l (switch on) h = refl
obeys_behind k o s b l idle h = refl
obeys_behind k o s b l unknown h = refl

and_left : (u v : Bool) → (u && v) ≡ false → u ≡ true → v ≡ false
and_left true v h e = h
and_left false v h e = absurd (let z : ◌≡◌ {A = ℕ} 0 1 = cc in omega arith)

-- what the port lets through is the drive's
pub perform_behind : (k : ℕ) (o : Oracle) (s : State) (t : TaskFile) (l : Load) → (s.machine.lit && ltb k (names t.command t.count)) ≡ false → perform o (limited k s) t l ≡ behind k (perform o s t l)
unfolding perform
perform_behind k o s t l h =
    either k s.machine.lit _ _ _ _
    (λ lit.
    let e : ltb k (names t.command t.count) ≡ false = and_left s.machine.lit _ h lit in
    let low : names t.command t.count ≤ k = grind (arith, nat_tests) in
    let m = taken_low s.words t.command t.feature t.count in
    obeys_behind k o s t.block l (taken s.words t.command t.feature t.count) (omega arith))
    refl

-- what it stops is aborted, as by a drive that takes so few
long_moves : (k : ℕ) (s : State) (b n : ℕ) (short : Bool) (buffer : List ℕ) (go : Gave) → k < n → moves (limited k s) b n short buffer go ≡ aborted (limited k s) buffer
long_moves k s b n short buffer go h =
    let i : (ltb (min s.most k) n || short) ≡ true = grind (arith, nat_tests) in
    ap (λ (v : Bool). cond v (aborted (limited k s) buffer) (cond (ltb (size s) (b + n)) (gives (says 65 16 (size s)) (ordered (limited k s)) buffer) go)) i

obeys_long : (k : ℕ) (o : Oracle) (s : State) (b : ℕ) (l : Load) (x : Order) → (k < moved x) ⊎ (x ≡ unknown) → obeys o (limited k s) b l x ≡ aborted (limited k s) (room l)
obeys_long k o s b l (read n) (inl h) = long_moves k s b n (ltb (length (incoming l)) (512 * n)) (room l) (ran (limited k s) (room l) (steps o (reads b n) s.machine)) h
obeys_long k o s b l (verify n) (inl h) = long_moves k s b n false (room l) (ran (limited k s) (room l) (steps o (verifies b n) s.machine)) h
obeys_long k o s b l (write t n) (inl h) = long_moves k s b n (ltb (length (outgoing l)) (512 * n)) (room l) (ran (limited k s) (room l) (steps o (writes t b (blocks n (outgoing l))) s.machine)) h
obeys_long k o s b l identify (inl h) = absurd (omega arith)
obeys_long k o s b l flush (inl h) = absurd (omega arith)
obeys_long k o s b l (switch on) (inl h) = absurd (omega arith)
obeys_long k o s b l idle (inl h) = absurd (omega arith)
obeys_long k o s b l unknown (inl h) = refl
obeys_long k o s b l x (inr e) = ap (obeys o (limited k s) b l) e

choose_long : (v : Bool) (x : Order) (k : ℕ) → k < moved x → (k < moved (cond v x unknown)) ⊎ (cond v x unknown ≡ unknown)
choose_long true x k h = inl h
choose_long false x k h = inr refl

taken_long : (ws : List ℕ) (c : AtaCommand) (f : Feature) (n k : ℕ) → k < names c n → (k < moved (taken ws c f n)) ⊎ (taken ws c f n ≡ unknown)
taken_long ws IdentifyDevice f n k h = absurd (omega arith)
taken_long ws ReadDma f n k h = inl h
taken_long ws ReadDmaExt f n k h = choose_long (wide ws) (read (named 65536 n)) k h
taken_long ws WriteDma f n k h = inl h
taken_long ws WriteDmaExt f n k h = choose_long (wide ws) (write false (named 65536 n)) k h
taken_long ws WriteDmaFuaExt f n k h = choose_long (through ws) (write true (named 65536 n)) k h
taken_long ws ReadVerify f n k h = inl h
taken_long ws ReadVerifyExt f n k h = choose_long (wide ws) (verify (named 65536 n)) k h
taken_long ws FlushCache f n k h = absurd (omega arith)
taken_long ws FlushCacheExt f n k h = absurd (omega arith)
taken_long ws SetFeatures f n k h = absurd (omega arith)
taken_long ws StandbyImmediate f n k h = absurd (omega arith)
taken_long ws CheckPowerMode f n k h = absurd (omega arith)
taken_long ws Unlisted f n k h = absurd (omega arith)

and_both : (u v : Bool) → (u && v) ≡ true → (u ≡ true) × (v ≡ true)
and_both true true h = (refl, refl)
and_both true false h = (refl, h)
and_both false v h = (h, absurd (let z : ◌≡◌ {A = ℕ} 0 1 = cc in omega arith))

pub perform_stopped : (k : ℕ) (o : Oracle) (s : State) (t : TaskFile) (l : Load) → (s.machine.lit && ltb k (names t.command t.count)) ≡ true → perform o (limited k s) t l ≡ aborted (limited k s) (room l)
unfolding perform
perform_stopped k o s t l h =
    let b = and_both s.machine.lit (ltb k (names t.command t.count)) h in
    let i = b.1 in
    let long : k < names t.command t.count = grind (arith, nat_tests) in
    ap (λ (v : Bool). cond v (obeys o (limited k s) t.block l (taken s.words t.command t.feature t.count)) (gives no_answer (ordered (limited k s)) (room l))) b.0
    ∙ obeys_long k o s t.block l (taken s.words t.command t.feature t.count) (taken_long s.words t.command t.feature t.count k long)

-- an exchange with the drive is one with the port
pub agrees_behind : (k k' : ℕ) (s t : State) (x : TaskFile) (l : Load) (back : List ℕ) (a : Answer) → k' ≡ k → (s.machine.lit && ltb k (names x.command x.count)) ≡ false →
    Agrees s (exchange x l back a) t → Agrees (limited k s) (exchange x l back a) (limited k' t)
agrees_behind k k' s t x l back a e h (o, g) =
    (o, ap (λ (n : ℕ). gives a (limited n t) back) e ∙ ap (behind k) g ∙ sym (perform_behind k o s x l h))

-- an abort by the port is one that the meaning allows
pub agrees_stopped : (k : ℕ) (s : State) (x : TaskFile) (l : Load) (back : List ℕ) → back ≡ room l → (s.machine.lit && ltb k (names x.command x.count)) ≡ true →
    Agrees (limited k s) (exchange x l back (says 65 4 0)) (limited k s)
agrees_stopped k s x l back e h =
    (λ _. record { settles = λ _. false }, ap (gives (says 65 4 0) (limited k s)) e ∙ sym (perform_stopped k (λ _. record { settles = λ _. false }) s x l h))
