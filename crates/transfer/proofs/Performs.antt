-- The commands that a translator sends run as their steps, on a drive that admits them.
use Rattle.std.proofs.Common.{◌≡◌, ℕ, zero, suc, ◌+◌, ◌*◌, ◌%◌, ◌<◌, ◌≤◌, Bool, true, false, cond, ◌||◌, ltb, List, [], ◌∷◌, length, sym, refl, ap, ◌∙◌, subst, inl, inr, mod-eq_of_lt, arith}
use native.Mathlib.Nat.{mod_self}
use Rattle.std.proofs.Math.Nat.{eq-or-lt_of_le}
use Rattle.std.proofs.lemmas.Bool.Decides.{nat_tests}
use Rattle.ata.specs.declared.task.TaskFile.{TaskFile}
use Rattle.ata.specs.declared.task.AtaCommand.TheVariants.{CheckPowerMode}
use Rattle.ata.specs.declared.task.Feature.TheVariants.{Absent}
use Rattle.ata.specs.Machine.{Oracle, flush_step, idle_step, steps}
use Rattle.ata.specs.Words.{wide, through}
use Rattle.ata.specs.Commands.{State, Gave, Load, nothing, sends, fetches, room, size, reads, writes, blocks, ran, moves, named, Order, read, write, flush, idle, unknown, taken, obeys, perform, gives, no_answer, ordered}
use Rattle.transfer.specs.declared.tasks.Width.{Width}
use Rattle.transfer.specs.Tasks.{width_of, limit, task, read_command, write_command, flush_command, read_task, write_task, flush_task}

named_some : (l p : ℕ) → 0 < p → named l p ≡ p
named_some l zero h = absurd (omega arith)
named_some l (suc p) h = refl

-- the count field names the count
named_mod : (l p : ℕ) → 0 < p → p ≤ l → named l (p % l) ≡ p
named_mod l p h k =
    elim (eq-or-lt_of_le k) [
      | inr w ↦ ap (named l) (mod-eq_of_lt w) ∙ named_some l p h
      | inl w ↦ ap (named l) (ap (λ (z : ℕ). z % l) w ∙ mod_self l) ∙ sym w
    ]

moves_runs : (s : State) (b n : ℕ) (short : Bool) (buffer : List ℕ) (go : Gave) → n ≤ s.most → short ≡ false → b + n ≤ size s → moves s b n short buffer go ≡ go
moves_runs s b n short buffer go h k l =
    let t : (ltb s.most n || short) ≡ false = grind (arith, nat_tests) in
    let u : ltb (size s) (b + n) ≡ false = grind (arith, nat_tests) in
    simp (t, u)

obeyed : (o : Oracle) (s : State) (t : TaskFile) (l : Load) (x : Order) → s.machine.lit ≡ true → taken s.words t.command t.feature t.count ≡ x → perform o s t l ≡ obeys o s t.block l x
unfolding perform
obeyed o s t l x h e =
    ap (λ (v : Bool). cond v (obeys o s t.block l (taken s.words t.command t.feature t.count)) (gives no_answer (ordered s) (room l))) h ∙ ap (obeys o s t.block l) e

module _ (ws : List ℕ) (w : Width) (e : w ≡ width_of (wide ws)) where
  reads_taken : (p : ℕ) → 0 < p → p ≤ limit w → taken ws (read_command w) Absent (p % limit w) ≡ read p
  reads_taken p h = subst (λ (w : Width). p ≤ limit w → taken ws (read_command w) Absent (p % limit w) ≡ read p) (sym e) (by (wide ws) refl)
    where
      by : (v : Bool) → wide ws ≡ v → p ≤ limit (width_of v) → taken ws (read_command (width_of v)) Absent (p % limit (width_of v)) ≡ read p
      by true f k = ap (λ (z : Bool). cond z (read (named 65536 (p % 65536))) unknown) f ∙ ap read (named_mod 65536 p h k)
      by false f k = ap read (named_mod 256 p h k)

  writes_taken : (t : Bool) (p : ℕ) → (t ≡ true → through ws ≡ true) → (through ws ≡ true → wide ws ≡ true) → 0 < p → p ≤ limit w → taken ws (write_command w t) Absent (p % limit w) ≡ write t p
  writes_taken t p u v h =
      subst (λ (w : Width). p ≤ limit w → taken ws (write_command w t) Absent (p % limit w) ≡ write t p) (sym e) (by (wide ws) refl t u)
    where
      by : (x : Bool) → wide ws ≡ x → (t : Bool) → (t ≡ true → through ws ≡ true) → p ≤ limit (width_of x) → taken ws (write_command (width_of x) t) Absent (p % limit (width_of x)) ≡ write t p
      by true f false u k = ap (λ (z : Bool). cond z (write false (named 65536 (p % 65536))) unknown) f ∙ ap (write false) (named_mod 65536 p h k)
      by false f false u k = ap (write false) (named_mod 256 p h k)
      by true f true u k = ap (λ (z : Bool). cond z (write true (named 65536 (p % 65536))) unknown) (u refl) ∙ ap (write true) (named_mod 65536 p h k)
      by false f true u k = let z : false ≡ true = sym f ∙ v (u refl) in absurd (let y : ◌≡◌ {A = ℕ} 0 1 = cc in omega arith)

  flush_taken : taken ws (flush_command w) Absent 0 ≡ flush
  flush_taken = subst (λ (w : Width). taken ws (flush_command w) Absent 0 ≡ flush) (sym e) (by (wide ws) refl)
    where
      by : (v : Bool) → wide ws ≡ v → taken ws (flush_command (width_of v)) Absent 0 ≡ flush
      by true f = ap (λ (z : Bool). cond z flush unknown) f
      by false f = refl

pub perform_read : (o : Oracle) (s : State) (w : Width) (b p : ℕ) (xs : List ℕ) → s.machine.lit ≡ true → w ≡ width_of (wide s.words) → 0 < p → p ≤ limit w → p ≤ s.most → 512 * p ≤ length xs → b + p ≤ size s →
    perform o s (read_task w b p) (fetches xs) ≡ ran s xs (steps o (reads b p) s.machine)
perform_read o s w b p xs l e h k m r f =
    let short : ltb (length xs) (512 * p) ≡ false = grind (arith, nat_tests) in
    obeyed o s (read_task w b p) (fetches xs) (read p) l (reads_taken s.words w e p h k)
    ∙ moves_runs s b p (ltb (length xs) (512 * p)) xs (ran s xs (steps o (reads b p) s.machine)) m short f

pub perform_write : (o : Oracle) (s : State) (w : Width) (t : Bool) (b p : ℕ) (xs : List ℕ) → s.machine.lit ≡ true → w ≡ width_of (wide s.words) → (t ≡ true → through s.words ≡ true) → (through s.words ≡ true → wide s.words ≡ true) → 0 < p → p ≤ limit w → p ≤ s.most → 512 * p ≤ length xs → b + p ≤ size s →
    perform o s (write_task w t b p) (sends xs) ≡ ran s [] (steps o (writes t b (blocks p xs)) s.machine)
perform_write o s w t b p xs l e u v h k m r f =
    let short : ltb (length xs) (512 * p) ≡ false = grind (arith, nat_tests) in
    obeyed o s (write_task w t b p) (sends xs) (write t p) l (writes_taken s.words w e t p u v h k)
    ∙ moves_runs s b p (ltb (length xs) (512 * p)) [] (ran s [] (steps o (writes t b (blocks p xs)) s.machine)) m short f

pub perform_flush : (o : Oracle) (s : State) (w : Width) → s.machine.lit ≡ true → w ≡ width_of (wide s.words) →
    perform o s (flush_task w) nothing ≡ ran s [] (steps o (flush_step ∷ []) s.machine)
perform_flush o s w l e = obeyed o s (flush_task w) nothing flush l (flush_taken s.words w e)

pub perform_idle : (o : Oracle) (s : State) → s.machine.lit ≡ true → perform o s (task CheckPowerMode 0 0) nothing ≡ ran s [] (steps o (idle_step ∷ []) s.machine)
perform_idle o s l = obeyed o s (task CheckPowerMode 0 0) nothing idle l refl
