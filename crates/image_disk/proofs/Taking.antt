-- A step once its power is asked for: with it the step is acted, without it the disk is dark.
use Rattle.std.proofs.Common.{◌≡◌, ℕ, zero, suc, Bool, true, false, cond, List, [], refl, sym, ap, ◌∙◌, arith, Ok, Err}
use Rattle.ata.specs.declared.answer.Stop.TheVariants.{Unreadable, Cut}
use Rattle.ata.specs.Machine.{End, Step, read_step, verify_step, idle_step, unreadable, bytes, step, act, ends}
use Rattle.disk.specs.declared.power.Supply.{Supply}
use Rattle.disk.specs.declared.power.Supply.TheVariants.{Lasting, Steps, Gone}
use Rattle.disk.specs.Powers.{lit_of, left_of, lasts, stepped, spent}
use Rattle.disk.specs.Quiet.{still}
use Rattle.disk.proofs.Acts.{read_done, read_stopped, verify_done, verify_stopped}
use Rattle.disk.proofs.Steps.{step_lasts, step_fails}
use Rattle.image_disk.specs.Held.{Held, machine_in, with_power, faded, block_in, one_error_on, power_taken, had_power}

-- a Result that says whether there was power
there_was : (v : Bool) → ◌≡◌ {A = End} (cond v (Ok tt) (Err Cut)) (Ok tt) → v ≡ true
there_was true e = refl
there_was false e = let z : ◌≡◌ {A = ℕ} 0 1 = cc in absurd (omega arith)

there_was_none : (v : Bool) (z : End) → z ≡ cond v (Ok tt) (Err Cut) → (z ≡ Ok tt → ⊥) → v ≡ false
there_was_none true z e w = absurd (w e)
there_was_none false z e w = refl

pub with_power_taken : (h k : Held) → had_power h ≡ Ok tt → k ≡ power_taken h → k ≡ with_power (spent h.power) h
with_power_taken h k w e = e ∙ ap (λ (v : Bool). record { claims = h.claims; store = cond v h.store (faded h.store); power = spent h.power }) (there_was (lasts h.power.supply) w)

pub goes_on : (h k : Held) (x : Step) → had_power h ≡ Ok tt → k ≡ power_taken h → step still x (machine_in h) ≡ act x (left_of k.power.supply) (machine_in k)
goes_on h k x w e =
    step_lasts h.store h.power x (there_was (lasts h.power.supply) w)
    ∙ ap (λ (j : Held). act x (left_of j.power.supply) (machine_in j)) (sym (with_power_taken h k w e))

-- a step that is not done for want of power
pub stops : (h k : Held) (x : Step) (z : End) → z ≡ had_power h → k ≡ power_taken h → (z ≡ Ok tt → ⊥) → step still x (machine_in h) ≡ ends z [] (machine_in k)
stops h k x z r e w =
    let f = there_was_none (lasts h.power.supply) z r w in
    let cut : z ≡ Err Cut = r ∙ ap (λ (v : Bool). cond v (Ok tt) (Err Cut)) f in
    let is : k ≡ record { claims = h.claims; store = faded h.store; power = spent h.power } =
    e ∙ ap (λ (v : Bool). record { claims = h.claims; store = cond v h.store (faded h.store); power = spent h.power }) f in
    step_fails h.store h.power x f
    ∙ (λ i. ends (sym cut i) [] (machine_in (sym is i)))

-- a disk that had power for a step is lit
pub lit_with_power : (h k : Held) → had_power h ≡ Ok tt → k ≡ power_taken h → lit_of k.power.supply ≡ true
lit_with_power h k w e = ap (λ (j : Held). lit_of j.power.supply) e ∙ by h.power.supply (there_was (lasts h.power.supply) w)
  where
    by : (l : Supply) → lasts l ≡ true → lit_of (stepped l) ≡ true
    by Lasting t = refl
    by (Steps zero) t = let z : ◌≡◌ {A = ℕ} 0 1 = cc in absurd (omega arith)
    by (Steps (suc n)) t = refl
    by Gone t = let z : ◌≡◌ {A = ℕ} 0 1 = cc in absurd (omega arith)

-- a block that can be read, and one that cannot and is counted
pub block_read : (k : Held) (b : ℕ) (xs : List ℕ) → block_in k b ≡ bytes xs → act (read_step b) (left_of k.power.supply) (machine_in k) ≡ ends (Ok tt) xs (machine_in k)
block_read k b xs e = read_done (machine_in k) b (bytes xs) e refl

pub block_met : (k m : Held) (b : ℕ) → block_in k b ≡ unreadable → m ≡ one_error_on k → act (read_step b) (left_of k.power.supply) (machine_in k) ≡ ends (Err (Unreadable b)) [] (machine_in m)
block_met k m b e f = read_stopped (machine_in k) b unreadable e refl ∙ ap (λ (j : Held). ends (Err (Unreadable b)) [] (machine_in j)) (sym f)

pub block_verified : (k : Held) (b : ℕ) (xs : List ℕ) → block_in k b ≡ bytes xs → act (verify_step b) (left_of k.power.supply) (machine_in k) ≡ ends (Ok tt) [] (machine_in k)
block_verified k b xs e = verify_done (machine_in k) b (bytes xs) e refl

pub block_missed : (k m : Held) (b : ℕ) → block_in k b ≡ unreadable → m ≡ one_error_on k → act (verify_step b) (left_of k.power.supply) (machine_in k) ≡ ends (Err (Unreadable b)) [] (machine_in m)
block_missed k m b e f = verify_stopped (machine_in k) b unreadable e refl ∙ ap (λ (j : Held). ends (Err (Unreadable b)) [] (machine_in j)) (sym f)

-- a step that only takes power
pub idles : (h k : Held) (z : End) → z ≡ had_power h → k ≡ power_taken h → step still idle_step (machine_in h) ≡ ends z [] (machine_in k)
idles h k (Ok tt) r e = goes_on h k idle_step (sym r) e
idles h k (Err (Unreadable b)) r e = stops h k idle_step (Err (Unreadable b)) r e (λ w. let z : ◌≡◌ {A = ℕ} 0 1 = cc in absurd (omega arith))
idles h k (Err Cut) r e = stops h k idle_step (Err Cut) r e (λ w. let z : ◌≡◌ {A = ℕ} 0 1 = cc in absurd (omega arith))
