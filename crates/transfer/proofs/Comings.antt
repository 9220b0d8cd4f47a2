-- Each command that is asked comes to its steps.
use Rattle.std.proofs.Common.{◌≡◌, ℕ, zero, suc, ◌+◌, ◌-◌, ◌*◌, ◌<◌, ◌≤◌, Bool, true, false, List, [], ◌∷◌, length, take, drop, sym, refl, ap, ◌∙◌, zero-mul, arith, Ok}
use Rattle.std.proofs.lemmas.List.{nil_from_length}
use Rattle.ata.specs.declared.task.TaskFile.{TaskFile}
use Rattle.ata.specs.declared.task.AtaCommand.TheVariants.{CheckPowerMode}
use Rattle.ata.specs.Machine.{Content, bytes, look, Step, read_step, write_step, flush_step, idle_step, Oracle, steps}
use Rattle.ata.specs.Words.{wide, through, blocks_of, count_limit}
use Rattle.ata.specs.Commands.{State, nothing, size, reads, writes, blocks, ran, perform}
use Rattle.ata.proofs.Ranges.{reads_read, length_reads, length_writes, length_blocks, silent_writes, silent_steps}
use Rattle.transfer.specs.declared.tasks.Width.{Width}
use Rattle.transfer.specs.Tasks.{width_of, limit, task, flush_task}
use Rattle.transfer.specs.Asks.{plain_ask, read_ask, sent_ask}
use Rattle.transfer.proofs.Groups.{group}
use Rattle.transfer.proofs.Performs.{perform_read, perform_write, perform_flush, perform_idle}
use Rattle.transfer.proofs.Plans.{Keep, Comes}

pub reach : (w : Width) (v : Bool) → w ≡ width_of v → limit w ≡ count_limit v
reach w true e = ap limit e
reach w false e = ap limit e

reads_first : (b p : ℕ) → 0 < p → reads b p ≡ read_step b ∷ reads (suc b) (p - 1)
unfolding reads
reads_first b zero h = absurd (omega arith)
reads_first b (suc p) h = let e : suc p - 1 ≡ p = omega arith in rw e

pub comes_read : (ws : List ℕ) (most : ℕ) (w : Width) (b p at : ℕ) → w ≡ width_of (wide ws) → 0 < p → p ≤ most → b + p ≤ blocks_of ws → Comes ws most (read_ask w b p at) (group p (512 * p)) (reads b p)
comes_read ws most w b p at e h k l =
    record {
      first = read_step b;
      others = reads (suc b) (p - 1);
      some = reads_first b p h;
      long = length_reads b p;
      bytes = refl;
      runs = λ o s room keep n.
          (let m = keep.limit in
          let f = keep.formed.most_fits in
          let z : limit w ≡ count_limit (wide s.words) = reach w (wide s.words) (e ∙ ap (λ (v : List ℕ). width_of (wide v)) (sym keep.words)) in
          let t : blocks_of ws ≡ size s = ap blocks_of (sym keep.words) ∙ keep.formed.blocks_true in
          perform_read o s w b p room keep.lit (e ∙ ap (λ (v : List ℕ). width_of (wide v)) (sym keep.words)) h (omega arith) (omega arith) (omega arith) (omega arith));
      few = λ o s keep. (reads_read p b o s.machine keep.formed.sectors).few;
      all = λ o s keep f. (reads_read p b o s.machine keep.formed.sectors).all f;
      gains_all = refl;
      gains_some = λ o s x keep f.
          (let r = reads_read p b o s.machine keep.formed.sectors in
          let i = r.last x f in
          let j = r.before x f in
          omega arith);
      gains_none = refl;
    }

writes_first : (t : Bool) (b p : ℕ) (ys : List ℕ) → 0 < p → writes t b (blocks p ys) ≡ write_step t b (bytes (take 512 ys)) ∷ writes t (suc b) (blocks (p - 1) (drop 512 ys))
unfolding writes blocks
writes_first t b zero ys h = absurd (omega arith)
writes_first t b (suc p) ys h = let e : suc p - 1 ≡ p = omega arith in rw e

pub comes_write : (ws : List ℕ) (most : ℕ) (w : Width) (t : Bool) (ys : List ℕ) (b p : ℕ) → w ≡ width_of (wide ws) → (t ≡ true → through ws ≡ true) → 0 < p → p ≤ most → b + p ≤ blocks_of ws → 512 * p ≤ length ys →
    Comes ws most (sent_ask w t ys b p) (group p (0 * p)) (writes t b (blocks p ys))
comes_write ws most w t ys b p e u h k l r =
    record {
      first = write_step t b (bytes (take 512 ys));
      others = writes t (suc b) (blocks (p - 1) (drop 512 ys));
      some = writes_first t b p ys h;
      long = length_writes t b (blocks p ys) ∙ length_blocks p ys;
      bytes = sym (zero-mul p);
      runs = λ o s room keep n.
          (let m = keep.limit in
          let f = keep.formed.most_fits in
          let e2 : w ≡ width_of (wide s.words) = e ∙ ap (λ (v : List ℕ). width_of (wide v)) (sym keep.words) in
          let z : limit w ≡ count_limit (wide s.words) = reach w (wide s.words) e2 in
          let i : blocks_of ws ≡ size s = ap blocks_of (sym keep.words) ∙ keep.formed.blocks_true in
          perform_write o s w t b p ys keep.lit e2 (λ q. ap through keep.words ∙ u q) keep.formed.through_wide h (omega arith) (omega arith) r (omega arith)
          ∙ ap (λ (z : List ℕ). ran s z (steps o (writes t b (blocks p ys)) s.machine)) (sym (nil_from_length room n)));
      few = λ o s keep. (let q = ap length (silent_steps (writes t b (blocks p ys)) o s.machine (silent_writes t b (blocks p ys))).none in omega arith);
      all = λ o s keep f. ap length (silent_steps (writes t b (blocks p ys)) o s.machine (silent_writes t b (blocks p ys))).none;
      gains_all = refl;
      gains_some = λ o s x keep f. absurd ((silent_steps (writes t b (blocks p ys)) o s.machine (silent_writes t b (blocks p ys))).never x f);
      gains_none = refl;
    }

-- one silent step
abbrev Still : Step → Type 0
Still x = (f : List Content) → ((look x f).end ≡ Ok tt) × ((look x f).given ≡ [])

comes_one : (ws : List ℕ) (most : ℕ) (t : TaskFile) (x : Step) → Still x → ((o : Oracle) (s : State) → Keep ws most s → perform o s t nothing ≡ ran s [] (steps o (x ∷ []) s.machine)) →
    Comes ws most (plain_ask t) (group 1 0) (x ∷ [])
comes_one ws most t x still go =
    record {
      first = x;
      others = [];
      some = refl;
      long = refl;
      bytes = refl;
      runs = λ o s room keep n. go o s keep ∙ ap (λ (z : List ℕ). ran s z (steps o (x ∷ []) s.machine)) (sym (nil_from_length room n));
      few = λ o s keep. (let q = ap length (silent_steps (x ∷ []) o s.machine (still, tt)).none in omega arith);
      all = λ o s keep f. ap length (silent_steps (x ∷ []) o s.machine (still, tt)).none;
      gains_all = refl;
      gains_some = λ o s z keep f. absurd ((silent_steps (x ∷ []) o s.machine (still, tt)).never z f);
      gains_none = refl;
    }

pub comes_flush : (ws : List ℕ) (most : ℕ) (w : Width) → w ≡ width_of (wide ws) → Comes ws most (plain_ask (flush_task w)) (group 1 0) (flush_step ∷ [])
comes_flush ws most w e =
    comes_one ws most (flush_task w) flush_step (λ f. (refl, refl))
    (λ o s keep. perform_flush o s w keep.lit (e ∙ ap (λ (v : List ℕ). width_of (wide v)) (sym keep.words)))

pub comes_idle : (ws : List ℕ) (most : ℕ) → Comes ws most (plain_ask (task CheckPowerMode 0 0)) (group 1 0) (idle_step ∷ [])
comes_idle ws most =
    comes_one ws most (task CheckPowerMode 0 0) idle_step (λ f. (refl, refl))
    (λ o s keep. perform_idle o s keep.lit)
