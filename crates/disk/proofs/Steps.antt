-- One step of a drive that puts no face on its medium by itself.
use Rattle.std.proofs.Common.{◌≡◌, ℕ, zero, suc, true, false, cond, List, [], ◌∷◌, refl, ap, ◌∙◌, arith, Err}
use Rattle.ata.specs.declared.answer.Stop.TheVariants.{Cut}
use Rattle.ata.specs.Machine.{Content, Store, Machine, Step, settle, settled, powered, step, act, ends}
use Rattle.ata.specs.Words.{cached}
use Rattle.ata.specs.Commands.{returned}
use Rattle.disk.specs.declared.power.Supply.{Supply}
use Rattle.disk.specs.declared.power.Supply.TheVariants.{Lasting, Steps, Gone}
use Rattle.disk.specs.declared.power.Power.{Power}
use Rattle.disk.specs.Powers.{power, lit_of, left_of, lasts, stepped, spent, restored, machine_with, state_with}
use Rattle.disk.specs.Quiet.{still}

pub settle_still : (i : ℕ) (fs ds : List Content) → settle (λ _. false) i fs ds ≡ ds
settle_still i [] ds = refl
settle_still i (f ∷ fs) [] = refl
settle_still i (f ∷ fs) (d ∷ ds) = ap (λ (r : List Content). d ∷ r) (settle_still (suc i) fs ds)

pub settled_still : (m : Machine) → settled still m ≡ m
settled_still m =
    ap (λ (d : List Content). record { store = record { face = m.store.face; medium = d; caching = m.store.caching }; lit = m.lit; left = m.left; errors = m.errors })
    (settle_still 0 m.store.face m.store.medium)

-- with power for it
pub step_lasts : (s : Store) (p : Power) (x : Step) → lasts p.supply ≡ true → step still x (machine_with s p) ≡ act x (left_of (spent p).supply) (machine_with s (spent p))
step_lasts s p x h = ap (λ (m : Machine). powered (left_of p.supply) x m) (settled_still (machine_with s p)) ∙ by p.supply h
  where
    by : (l : Supply) → lasts l ≡ true → powered (left_of l) x (machine_with s (power l p.errors p.orders)) ≡ act x (left_of (stepped l)) (machine_with s (power (stepped l) p.errors p.orders))
    by Lasting t = refl
    by (Steps zero) t = let z : ◌≡◌ {A = ℕ} 0 1 = cc in absurd (omega arith)
    by (Steps (suc n)) t = refl
    by Gone t = let z : ◌≡◌ {A = ℕ} 0 1 = cc in absurd (omega arith)

-- without
pub step_fails : (s : Store) (p : Power) (x : Step) → lasts p.supply ≡ false → step still x (machine_with s p) ≡ ends (Err Cut) [] (machine_with (record { face = s.medium; medium = s.medium; caching = s.caching }) (spent p))
step_fails s p x h = ap (λ (m : Machine). powered (left_of p.supply) x m) (settled_still (machine_with s p)) ∙ by p.supply h
  where
    by : (l : Supply) → lasts l ≡ false → powered (left_of l) x (machine_with s (power l p.errors p.orders)) ≡ ends (Err Cut) [] (machine_with (record { face = s.medium; medium = s.medium; caching = s.caching }) (power (stepped l) p.errors p.orders))
    by Lasting t = let z : ◌≡◌ {A = ℕ} 0 1 = cc in absurd (omega arith)
    by (Steps zero) t = refl
    by (Steps (suc n)) t = let z : ◌≡◌ {A = ℕ} 0 1 = cc in absurd (omega arith)
    by Gone t = refl

-- the return of power, of a disk as a drive
pub returned_is : (words : List ℕ) (most : ℕ) (s t : Store) (p : Power) → t ≡ cond (lit_of p.supply) s (record { face = s.face; medium = s.medium; caching = cached words }) → state_with words most t (restored p) ≡ returned (state_with words most s p)
returned_is words most s t p e = ap (λ (u : Store). state_with words most u (restored p)) e ∙ by p.supply
  where
    by : (l : Supply) → state_with words most (cond (lit_of l) s (record { face = s.face; medium = s.medium; caching = cached words })) (restored (power l p.errors p.orders)) ≡ returned (state_with words most s (power l p.errors p.orders))
    by Lasting = refl
    by (Steps k) = refl
    by Gone = refl
