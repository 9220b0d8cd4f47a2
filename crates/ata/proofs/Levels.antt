-- Where faces are on their medium: with the cache off, without power, after a flush, after a write through the cache.
use Rattle.std.proofs.Common.{◌≡◌, ℕ, zero, suc, ◌+◌, ◌<◌, ◌≤◌, Bool, true, false, cond, ◌⊎◌, List, [], ◌∷◌, length, get_or, set, Some, None, Option, sym, refl, ap, ◌∙◌, inl, inr, arith, length-set, get_or-set_other, get_or-set_same, Ok, Err}
use Rattle.std.proofs.lemmas.Bool.Decides.{eqb_tells}
use Rattle.ata.specs.Machine.{End}
use Rattle.ata.specs.declared.answer.Stop.TheVariants.{Unreadable, Cut}
use Rattle.ata.specs.Machine.{Content, unreadable, Machine, Choice, Step, read_step, verify_step, write_step, flush_step, cache_step, idle_step, Oracle, Outcome, settle, settled, look, sinks, caches, act, powered, step, next, steps}
use Rattle.ata.specs.Commands.{writes}
use Rattle.ata.specs.Laws.{Level, StaysLevel, FlushSettles, Settled, ThroughSettles}

settle_length : (s : ℕ → Bool) (i : ℕ) (f d : List Content) → length (settle s i f d) ≡ length d
settle_length s i [] d = refl
settle_length s i (x ∷ f) [] = refl
settle_length s i (x ∷ f) (y ∷ d) = ap suc (settle_length s (suc i) f d)

settle_level : (s : ℕ → Bool) (i : ℕ) (f : List Content) → settle s i f f ≡ f
settle_level s i [] = refl
settle_level s i (x ∷ f) = let h = settle_level s (suc i) f in elim (s i) as (λ v. cond v x x ∷ settle s (suc i) f f ≡ x ∷ f) [ true ↦ ap (λ r. x ∷ r) h | false ↦ ap (λ r. x ∷ r) h ]

settle_at : (P : Content → Type 0) (s : ℕ → Bool) (i k : ℕ) (f d : List Content) → P (get_or f k unreadable) → P (get_or d k unreadable) → P (get_or (settle s i f d) k unreadable)
settle_at P s i k [] d p q = q
settle_at P s i k (x ∷ f) [] p q = q
settle_at P s i zero (x ∷ f) (y ∷ d) p q = elim (s i) as (λ v. P (cond v x y)) [ true ↦ p | false ↦ q ]
settle_at P s i (suc k) (x ∷ f) (y ∷ d) p q = settle_at P s (suc i) k f d p q

clash : {X : Type 0} (v : Bool) → v ≡ true → v ≡ false → X
clash v p q = let z : ◌≡◌ {A = ℕ} 0 1 = cc in absurd (omega arith)

settled_level : (c : Choice) (m : Machine) → Level m → Level (settled c m)
settled_level c m h =
    record {
      even = settle_length c.settles 0 m.store.face m.store.medium ∙ h.even;
      off = λ e. ap (settle c.settles 0 m.store.face) (h.off e) ∙ settle_level c.settles 0 m.store.face;
      dark = λ e. ap (settle c.settles 0 m.store.face) (h.dark e) ∙ settle_level c.settles 0 m.store.face;
    }

sinks_even : (x : Step) (on : Bool) (f d : List Content) → length d ≡ length f → length (sinks x on f d) ≡ length (look x f).face
sinks_even (read_step b) on f d e = e
sinks_even (verify_step b) on f d e = e
sinks_even (write_step true b c) on f d e = length-set d b c ∙ e ∙ sym (length-set f b c)
sinks_even (write_step false b c) true f d e = e ∙ sym (length-set f b c)
sinks_even (write_step false b c) false f d e = length-set d b c ∙ e ∙ sym (length-set f b c)
sinks_even flush_step on f d e = refl
sinks_even (cache_step true) on f d e = e
sinks_even (cache_step false) on f d e = refl
sinks_even idle_step on f d e = e

sinks_off : (x : Step) (on : Bool) (f d : List Content) → (on ≡ false → d ≡ f) → caches x on ≡ false → sinks x on f d ≡ (look x f).face
sinks_off (read_step b) on f d h e = h e
sinks_off (verify_step b) on f d h e = h e
sinks_off (write_step true b c) on f d h e = ap (λ (z : List Content). set z b c) (h e)
sinks_off (write_step false b c) true f d h e = clash true refl e
sinks_off (write_step false b c) false f d h e = ap (λ (z : List Content). set z b c) (h refl)
sinks_off flush_step on f d h e = refl
sinks_off (cache_step true) on f d h e = clash true refl e
sinks_off (cache_step false) on f d h e = refl
sinks_off idle_step on f d h e = h e

act_level : (x : Step) (l : Option ℕ) (m : Machine) → m.lit ≡ true → Level m → Level (act x l m).machine
act_level x l m lit h =
    record {
      even = sinks_even x m.store.caching m.store.face m.store.medium h.even;
      off = sinks_off x m.store.caching m.store.face m.store.medium h.off;
      dark = λ e. clash m.lit lit e;
    }

-- one step: it keeps the drive level, and its power where it was done
step_level : (c : Choice) (x : Step) (m : Machine) → m.lit ≡ true → Level m → Level (step c x m).machine
step_level c x m lit h = by m.left
  where
    by : (l : Option ℕ) → Level (powered l x (settled c m)).machine
    by None = act_level x None (settled c m) lit (settled_level c m h)
    by (Some zero) = record { even = refl; off = λ _. refl; dark = λ _. refl }
    by (Some (suc n)) = act_level x (Some n) (settled c m) lit (settled_level c m h)

step_lit : (c : Choice) (x : Step) (m : Machine) → (step c x m).end ≡ Ok tt → m.lit ≡ true → (step c x m).machine.lit ≡ true
step_lit c x m e lit = by m.left e
  where
    by : (l : Option ℕ) → (powered l x (settled c m)).end ≡ Ok tt → (powered l x (settled c m)).machine.lit ≡ true
    by None e = lit
    by (Some zero) e = absurd (let z : ◌≡◌ {A = ℕ} 0 1 = cc in omega arith)
    by (Some (suc n)) e = lit

pub steps_level : StaysLevel
steps_level o [] m lit h = h
steps_level o (x ∷ xs) m lit h =
    by (step (o 0) x m).end (step (o 0) x m).given (step (o 0) x m).machine (λ e. step_lit (o 0) x m e lit) (step_level (o 0) x m lit h) (λ n. steps_level (λ k. o (suc k)) xs n)
  where
    by : (e : End) (g : List ℕ) (n : Machine) → (e ≡ Ok tt → n.lit ≡ true) → Level n → ((n : Machine) → n.lit ≡ true → Level n → Level (steps (λ k. o (suc k)) xs n).machine) → Level (next e g n (λ k. steps (λ i. o (suc i)) xs k)).machine
    by (Ok tt) g n l h more = more n (l refl) h
    by (Err (Unreadable b)) g n l h more = h
    by (Err Cut) g n l h more = h

no_cut : {X : Type 0} → ◌≡◌ {A = End} (Err Cut) (Ok tt) → X
no_cut e = let z : ◌≡◌ {A = ℕ} 0 1 = cc in absurd (omega arith)

abbrev AsOne : Outcome → Type 0
AsOne r = r.end ≡ Ok tt → r.machine.store.medium ≡ r.machine.store.face

one_step : (x : Step) (o : Oracle) (m : Machine) → AsOne (step (o 0) x m) → AsOne (steps o (x ∷ []) m)
one_step x o m h = by (step (o 0) x m).end (step (o 0) x m).given (step (o 0) x m).machine h
  where
    by : (e : End) (g : List ℕ) (n : Machine) → (e ≡ Ok tt → n.store.medium ≡ n.store.face) → AsOne (next e g n (λ k. steps (λ i. o (suc i)) [] k))
    by (Ok tt) g n h w = h refl
    by (Err (Unreadable b)) g n h w = h w
    by (Err Cut) g n h w = h w

settles_one : (x : Step) (c : Choice) (m : Machine) → ((on : Bool) (f d : List Content) → sinks x on f d ≡ (look x f).face) → AsOne (step c x m)
settles_one x c m h = by m.left
  where
    by : (l : Option ℕ) → AsOne (powered l x (settled c m))
    by None e = h m.store.caching m.store.face _
    by (Some zero) e = refl
    by (Some (suc n)) e = h m.store.caching m.store.face _

pub flush_settles : FlushSettles
flush_settles o m = (
  one_step flush_step o m (settles_one flush_step (o 0) m (λ on f d. refl)),
  one_step (cache_step false) o m (settles_one (cache_step false) (o 0) m (λ on f d. refl)),
)

past : (k b : ℕ) → (k ≡ b → ⊥) → b ≤ k → suc b ≤ k
past zero b i a = absurd (i (omega arith))
past (suc k) zero i a = omega arith
past (suc k) (suc b) i a = let z = past k b (λ e. i (ap suc e)) (omega arith) in omega arith

-- a write through the cache, at one block: met already, or yet to come
abbrev Coming : ℕ → ℕ → ℕ → Machine → Type 0
Coming k b n m = ((b ≤ k) × (k < b + n)) ⊎ Settled k m

through_one : (k b n : ℕ) (c : Content) (ch : Choice) (m : Machine) → length m.store.medium ≡ length m.store.face → b < length m.store.face → Coming k b (suc n) m →
    (step ch (write_step true b c) m).end ≡ Ok tt → Coming k (suc b) n (step ch (write_step true b c) m).machine
through_one k b n c ch m even low h e = by m.left e
  where
    f : List Content
    f = m.store.face

    d : List Content
    d = settle ch.settles 0 m.store.face m.store.medium

    d_long : length d ≡ length f
    d_long = settle_length ch.settles 0 m.store.face m.store.medium ∙ even

    same : (k ≡ b) → get_or (set d b c) k unreadable ≡ get_or (set f b c) k unreadable
    same i = ap (λ (z : ℕ). get_or (set d b c) z unreadable) i ∙ get_or-set_same d b c unreadable (let dl = d_long in omega arith) ∙ sym (get_or-set_same f b c unreadable low) ∙ ap (λ (z : ℕ). get_or (set f b c) z unreadable) (sym i)

    other : (k ≡ b → ⊥) → Settled k m → get_or (set d b c) k unreadable ≡ get_or (set f b c) k unreadable
    other i s = get_or-set_other d b k c unreadable i ∙ settle_at (λ (z : Content). z ≡ get_or f k unreadable) ch.settles 0 k f m.store.medium refl s ∙ sym (get_or-set_other f b k c unreadable i)

    met : Coming k b (suc n) m → ((suc b ≤ k) × (k < suc b + n)) ⊎ (get_or (set d b c) k unreadable ≡ get_or (set f b c) k unreadable)
    met h = elim (eqb_tells k b) [ inl i ↦ inr (same i.1) | inr i ↦ later i.1 h ]
      where
        later : (k ≡ b → ⊥) → Coming k b (suc n) m → ((suc b ≤ k) × (k < suc b + n)) ⊎ (get_or (set d b c) k unreadable ≡ get_or (set f b c) k unreadable)
        later i (inl r) = let a = r.0 in let z = r.1 in inl (past k b i a, omega arith)
        later i (inr s) = inr (other i s)

    by : (l : Option ℕ) → (powered l (write_step true b c) (settled ch m)).end ≡ Ok tt → Coming k (suc b) n (powered l (write_step true b c) (settled ch m)).machine
    by None e = met h
    by (Some zero) e = no_cut e
    by (Some (suc j)) e = met h

through_all : (o : Oracle) (cs : List Content) (b k : ℕ) (m : Machine) → length m.store.medium ≡ length m.store.face → b + length cs ≤ length m.store.face → Coming k b (length cs) m →
    (steps o (writes true b cs) m).end ≡ Ok tt → Settled k (steps o (writes true b cs) m).machine
unfolding writes
through_all o [] b k m even low h e = elim h [ inl r ↦ (let a = r.0 in let z = r.1 in absurd (omega arith)) | inr s ↦ s ]
through_all o (c ∷ cs) b k m even low h e =
    by (step (o 0) (write_step true b c) m).end (step (o 0) (write_step true b c) m).given (step (o 0) (write_step true b c) m).machine
    (λ i. through_one k b (length cs) c (o 0) m even (omega arith) h i) (one_long (o 0) b c m even) e
    (λ n. through_all (λ i. o (suc i)) cs (suc b) k n)
  where
    one_long : (ch : Choice) (b : ℕ) (c : Content) (m : Machine) → length m.store.medium ≡ length m.store.face → (step ch (write_step true b c) m).end ≡ Ok tt →
        (length (step ch (write_step true b c) m).machine.store.medium ≡ length (step ch (write_step true b c) m).machine.store.face) × (length (step ch (write_step true b c) m).machine.store.face ≡ length m.store.face)
    one_long ch b c m even e = by_left m.left e
      where
        by_left : (l : Option ℕ) → (powered l (write_step true b c) (settled ch m)).end ≡ Ok tt →
            (length (powered l (write_step true b c) (settled ch m)).machine.store.medium ≡ length (powered l (write_step true b c) (settled ch m)).machine.store.face) × (length (powered l (write_step true b c) (settled ch m)).machine.store.face ≡ length m.store.face)
        by_left None e = (length-set (settled ch m).store.medium b c ∙ settle_length ch.settles 0 m.store.face m.store.medium ∙ even ∙ sym (length-set m.store.face b c), length-set m.store.face b c)
        by_left (Some zero) e = no_cut e
        by_left (Some (suc n)) e = (length-set (settled ch m).store.medium b c ∙ settle_length ch.settles 0 m.store.face m.store.medium ∙ even ∙ sym (length-set m.store.face b c), length-set m.store.face b c)

    by : (x : End) (g : List ℕ) (n : Machine) → (x ≡ Ok tt → Coming k (suc b) (length cs) n) → (x ≡ Ok tt → (length n.store.medium ≡ length n.store.face) × (length n.store.face ≡ length m.store.face)) →
        (next x g n (λ q. steps (λ i. o (suc i)) (writes true (suc b) cs) q)).end ≡ Ok tt →
        ((n : Machine) → length n.store.medium ≡ length n.store.face → suc b + length cs ≤ length n.store.face → Coming k (suc b) (length cs) n → (steps (λ i. o (suc i)) (writes true (suc b) cs) n).end ≡ Ok tt → Settled k (steps (λ i. o (suc i)) (writes true (suc b) cs) n).machine) →
        Settled k (next x g n (λ q. steps (λ i. o (suc i)) (writes true (suc b) cs) q)).machine
    by (Ok tt) g n c l e more = let a = (l refl).1 in more n (l refl).0 (omega arith) (c refl) e
    by (Err (Unreadable z)) g n c l e more = absurd (let y : ◌≡◌ {A = ℕ} 0 1 = cc in omega arith)
    by (Err Cut) g n c l e more = no_cut e

pub through_settles : ThroughSettles
through_settles o cs b k m even low first last e = through_all o cs b k m even low (inl (first, last)) e
