-- How a run of steps goes on by one, ends, and is done.
use Rattle.std.proofs.Common.{◌≡◌, ℕ, ◌+◌, ◌<◌, ◌≤◌, List, [], ◌∷◌, ◌++◌, length, get_or, drop, sym, refl, ap, ◌∙◌, Ok, Err}
use Rattle.std.proofs.lemmas.List.{append-nil, append_assoc, drop_more, drop_all}
use Rattle.ata.specs.Machine.{End}
use Rattle.ata.specs.declared.answer.Stop.TheVariants.{Unreadable, Cut}
use Rattle.ata.specs.Machine.{Machine, Step, idle_step, Outcome, step, steps, next, ends}
use Rattle.disk.specs.Quiet.{still, quiet, prefixed, Reached}

first_of : (xs : List Step) (x : Step) (i : ℕ) → i < length xs → get_or xs i idle_step ≡ x → drop i xs ≡ x ∷ drop (i + 1) xs
first_of xs x i l f = drop_more xs i idle_step l ∙ ap (λ (y : Step). y ∷ drop (i + 1) xs) f

pub one_step : (x : Step) (xs : List Step) (m : Machine) (r : Outcome) → step still x m ≡ r → steps quiet (x ∷ xs) m ≡ next r.end r.given r.machine (λ n. steps quiet xs n)
one_step x xs m r e = ap (λ (z : Outcome). next z.end z.given z.machine (λ n. steps quiet xs n)) e

pub reached_more : (xs : List Step) (m : Machine) (i : ℕ) (g : List ℕ) (n : Machine) (x : Step) (h : List ℕ) (k : Machine) → Reached xs m i g n → i < length xs → get_or xs i idle_step ≡ x → step still x n ≡ ends (Ok tt) h k → Reached xs m (i + 1) (g ++ h) k
reached_more xs m i g n x h k r l f e =
    r ∙ ap (λ (ys : List Step). prefixed g (steps quiet ys n)) (first_of xs x i l f)
    ∙ ap (λ (z : Outcome). prefixed g z) (one_step x (drop (i + 1) xs) n (ends (Ok tt) h k) e)
    ∙ ap (λ (ys : List ℕ). ends (steps quiet (drop (i + 1) xs) k).end ys (steps quiet (drop (i + 1) xs) k).machine) (sym (append_assoc g h (steps quiet (drop (i + 1) xs) k).given))

-- a step that is not done ends the run
pub reached_end : (xs : List Step) (m : Machine) (i : ℕ) (g : List ℕ) (n : Machine) (x : Step) (z : End) (k : Machine) → Reached xs m i g n → i < length xs → get_or xs i idle_step ≡ x → step still x n ≡ ends z [] k → (z ≡ Ok tt → ⊥) → steps quiet xs m ≡ ends z g k
reached_end xs m i g n x z k r l f e not_done =
    r ∙ ap (λ (ys : List Step). prefixed g (steps quiet ys n)) (first_of xs x i l f)
    ∙ ap (λ (y : Outcome). prefixed g y) (one_step x (drop (i + 1) xs) n (ends z [] k) e)
    ∙ by z not_done
  where
    by : (z : End) → (z ≡ Ok tt → ⊥) → prefixed g (next z [] k (λ n. steps quiet (drop (i + 1) xs) n)) ≡ ends z g k
    by (Ok tt) w = absurd (w refl)
    by (Err (Unreadable b)) w = ap (λ (ys : List ℕ). ends (Err (Unreadable b)) ys k) (append-nil g)
    by (Err Cut) w = ap (λ (ys : List ℕ). ends (Err Cut) ys k) (append-nil g)

pub reached_all : (xs : List Step) (m : Machine) (i : ℕ) (g : List ℕ) (n : Machine) → Reached xs m i g n → length xs ≤ i → steps quiet xs m ≡ ends (Ok tt) g n
reached_all xs m i g n r l =
    r ∙ ap (λ (ys : List Step). prefixed g (steps quiet ys n)) (drop_all i xs l) ∙ ap (λ (ys : List ℕ). ends (Ok tt) ys n) (append-nil g)
