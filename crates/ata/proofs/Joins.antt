-- Steps one after another: two lists of steps, each with its choices, are one list with the choices joined.
use Rattle.std.proofs.Common.{◌≡◌, ℕ, zero, suc, ◌+◌, ◌<◌, ◌≤◌, List, [], ◌∷◌, ◌++◌, length, sym, refl, ap, ◌∙◌, append_assoc, zero-add, arith, Ok, Err}
use Rattle.ata.specs.Machine.{End}
use Rattle.ata.specs.declared.answer.Stop.TheVariants.{Unreadable, Cut}
use Rattle.ata.specs.Machine.{Machine, Step, Outcome, Oracle, step, steps, ends, next, begun, begun_after}

abbrev pub joined : ℕ → Oracle → Oracle → Oracle
joined zero p q k = q k
joined (suc n) p q zero = p 0
joined (suc n) p q (suc k) = joined n (λ i. p (suc i)) q k

-- what comes of the rest, after an outcome
abbrev pub then : Oracle → List Step → Outcome → Outcome
then o xs r = next r.end r.given r.machine (λ n. steps o xs n)

next_next : (e : End) (g : List ℕ) (m : Machine) (rest : Machine → Outcome) (o : Oracle) (ys : List Step) →
    next e g m (λ n. then o ys (rest n)) ≡ then o ys (next e g m rest)
next_next (Ok tt) g m rest o ys = by (rest m).end (rest m).given (rest m).machine
  where
    by : (e : End) (h : List ℕ) (n : Machine) →
        ends (next e h n (λ k. steps o ys k)).end (g ++ (next e h n (λ k. steps o ys k)).given) (next e h n (λ k. steps o ys k)).machine ≡ next e (g ++ h) n (λ k. steps o ys k)
    by (Ok tt) h n = ap (λ (z : List ℕ). ends (steps o ys n).end z (steps o ys n).machine) (sym (append_assoc g h (steps o ys n).given))
    by (Err (Unreadable b)) h n = refl
    by (Err Cut) h n = refl
next_next (Err (Unreadable b)) g m rest o ys = refl
next_next (Err Cut) g m rest o ys = refl

pub steps_join : (xs ys : List Step) (p q : Oracle) (m : Machine) → steps (joined (length xs) p q) (xs ++ ys) m ≡ then q ys (steps p xs m)
steps_join [] ys p q m = refl
steps_join (x ∷ xs) ys p q m =
    by (step (p 0) x m).end (step (p 0) x m).given (step (p 0) x m).machine (λ n. steps_join xs ys (λ i. p (suc i)) q n)
    ∙ next_next (step (p 0) x m).end (step (p 0) x m).given (step (p 0) x m).machine (λ n. steps (λ i. p (suc i)) xs n) q ys
  where
    by : (e : End) (g : List ℕ) (n : Machine) → ((n : Machine) → steps (joined (length xs) (λ i. p (suc i)) q) (xs ++ ys) n ≡ then q ys (steps (λ i. p (suc i)) xs n)) →
        next e g n (λ k. steps (joined (length xs) (λ i. p (suc i)) q) (xs ++ ys) k) ≡ next e g n (λ k. then q ys (steps (λ i. p (suc i)) xs k))
    by (Ok tt) g n more = ap (λ (r : Outcome). ends r.end (g ++ r.given) r.machine) (more n)
    by (Err (Unreadable b)) g n more = refl
    by (Err Cut) g n more = refl

-- how many steps are begun of the rest, after an outcome
abbrev pub begun_then : End → ℕ → ℕ → ℕ
begun_then (Ok tt) k n = k + n
begun_then (Err (Unreadable b)) k n = k
begun_then (Err Cut) k n = k

pub begun_join : (xs ys : List Step) (p q : Oracle) (m : Machine) →
    begun (joined (length xs) p q) (xs ++ ys) m ≡ begun_then (steps p xs m).end (begun p xs m) (begun q ys (steps p xs m).machine)
begun_join [] ys p q m = sym (zero-add (begun q ys m))
begun_join (x ∷ xs) ys p q m =
    by (step (p 0) x m).end (step (p 0) x m).given (step (p 0) x m).machine (λ n. begun_join xs ys (λ i. p (suc i)) q n)
  where
    by : (e : End) (g : List ℕ) (n : Machine) →
        ((n : Machine) → begun (joined (length xs) (λ i. p (suc i)) q) (xs ++ ys) n ≡ begun_then (steps (λ i. p (suc i)) xs n).end (begun (λ i. p (suc i)) xs n) (begun q ys (steps (λ i. p (suc i)) xs n).machine)) →
        begun_after e (begun (joined (length xs) (λ i. p (suc i)) q) (xs ++ ys) n)
        ≡ begun_then (next e g n (λ k. steps (λ i. p (suc i)) xs k)).end (begun_after e (begun (λ i. p (suc i)) xs n)) (begun q ys (next e g n (λ k. steps (λ i. p (suc i)) xs k)).machine)
    by (Ok tt) g n more = ap suc (more n) ∙ suc_then (steps (λ i. p (suc i)) xs n).end (begun (λ i. p (suc i)) xs n) (begun q ys (steps (λ i. p (suc i)) xs n).machine)
      where
        suc_then : (e : End) (k j : ℕ) → suc (begun_then e k j) ≡ begun_then e (suc k) j
        suc_then (Ok tt) k j = omega arith
        suc_then (Err (Unreadable b)) k j = refl
        suc_then (Err Cut) k j = refl
    by (Err (Unreadable b)) g n more = refl
    by (Err Cut) g n more = refl

-- no more steps are begun than there are, and all where they were done
pub begun_few : (xs : List Step) (o : Oracle) (m : Machine) → begun o xs m ≤ length xs
begun_few [] o m = omega arith
begun_few (x ∷ xs) o m = by (step (o 0) x m).end (begun_few xs (λ i. o (suc i)) (step (o 0) x m).machine)
  where
    by : (e : End) → begun (λ i. o (suc i)) xs (step (o 0) x m).machine ≤ length xs → begun_after e (begun (λ i. o (suc i)) xs (step (o 0) x m).machine) ≤ suc (length xs)
    by (Ok tt) h = omega arith
    by (Err (Unreadable b)) h = omega arith
    by (Err Cut) h = omega arith

no_stop : {X : Type 0} {b : ℕ} → ◌≡◌ {A = End} (Err (Unreadable b)) (Ok tt) → X
no_stop e = let z : ◌≡◌ {A = ℕ} 0 1 = cc in absurd (omega arith)

no_cut : {X : Type 0} → ◌≡◌ {A = End} (Err Cut) (Ok tt) → X
no_cut e = let z : ◌≡◌ {A = ℕ} 0 1 = cc in absurd (omega arith)

pub begun_all : (xs : List Step) (o : Oracle) (m : Machine) → (steps o xs m).end ≡ Ok tt → begun o xs m ≡ length xs
begun_all [] o m h = refl
begun_all (x ∷ xs) o m h =
    by (step (o 0) x m).end (step (o 0) x m).given (step (o 0) x m).machine h (λ n. begun_all xs (λ i. o (suc i)) n)
  where
    by : (e : End) (g : List ℕ) (n : Machine) → (next e g n (λ k. steps (λ i. o (suc i)) xs k)).end ≡ Ok tt → ((n : Machine) → (steps (λ i. o (suc i)) xs n).end ≡ Ok tt → begun (λ i. o (suc i)) xs n ≡ length xs) →
        begun_after e (begun (λ i. o (suc i)) xs n) ≡ suc (length xs)
    by (Ok tt) g n w more = ap suc (more n w)
    by (Err (Unreadable b)) g n w more = no_stop w
    by (Err Cut) g n w more = no_cut w

-- at least one, where there is any
pub begun_some : (x : Step) (xs : List Step) (o : Oracle) (m : Machine) → 0 < begun o (x ∷ xs) m
begun_some x xs o m = by (step (o 0) x m).end (begun (λ i. o (suc i)) xs (step (o 0) x m).machine)
  where
    by : (e : End) (n : ℕ) → 0 < begun_after e n
    by (Ok tt) n = omega arith
    by (Err (Unreadable b)) n = omega arith
    by (Err Cut) n = omega arith
