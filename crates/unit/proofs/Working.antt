-- What the unit's commands do to the blocks, from what it said to the drive.
use Rattle.std.proofs.Common.{◌≡◌, ℕ, zero, suc, ◌+◌, ◌/◌, ◌≤◌, Bool, true, false, cond, List, [], ◌∷◌, ◌++◌, length, take, drop, None, Ok, Result, sym, refl, ap, ◌∙◌, subst, inl, inr, Err}
use Rattle.std.proofs.lemmas.List.{take-append-drop}
use Rattle.ata.specs.Machine.{End}
use Rattle.ata.specs.declared.answer.Stop.TheVariants.{Unreadable, Cut}
use Rattle.ata.specs.declared.task.TaskFile.{TaskFile}
use Rattle.ata.specs.Machine.{Content, Step, Oracle, Look, shown, steps, scored}
use Rattle.ata.specs.Commands.{State, Gave, Load, room, reads, writes, blocks, over, ordered, gives, no_answer, taken, obeys, perform}
use Rattle.ata.specs.Exchange.{Exchange, Agrees}
use Rattle.ata.specs.Shows.{looks, next_look, written, read_shows, write_shows}
use Rattle.ata.proofs.Power.{went}
use Rattle.ata.proofs.Shown.{looks_reads, looks_writes, looks_join, never_cut}
use Rattle.sense.specs.declared.refusal.Refusal.{Refusal}
use Rattle.sense.specs.declared.case.Sense.TheVariants.{NoAnswer}
use Rattle.transfer.specs.declared.counts.Tally.{Tally}
use Rattle.transfer.specs.declared.faults.Fault.{Fault}
use Rattle.transfer.specs.declared.tasks.Width.{Width}
use Rattle.transfer.specs.declared.writing.Force.{Force}
use Rattle.transfer.specs.Talk.{Verdict, failed, judged, Ask, part, made, laid, counted, Held, none_yet}
use Rattle.transfer.specs.Asks.{write_ask, cut, pieces, flush_beside, read_asks, write_asks, goes_through, is_flushed}
use Rattle.transfer.specs.Steps.{Work, flush_steps, read_steps, write_steps, told_by, bytes_by, Stepped}
use Rattle.transfer.proofs.Talks.{held_nil, held_first}
use Rattle.unit.specs.declared.replies.Reply.{Reply}
use Rattle.unit.specs.declared.replies.Reply.TheVariants.{Good}
use Rattle.unit.specs.Replies.{replied}
use Rattle.unit.specs.Works.{Shown, Dark, dark_state, dark_reply}

bytes_all : (e : End) (g f : ℕ) → (e ≡ Err Cut → ⊥) → bytes_by e g f ≡ g
bytes_all (Ok tt) g f h = refl
bytes_all (Err (Unreadable x)) g f h = refl
bytes_all (Err Cut) g f h = absurd (h refl)

-- while no power failure is pending, steps show what the faces do
pub shown_by : (w : Work) (s : State) (before : List ℕ) (t : State) (end : List ℕ) (q : Tally) (v : Verdict) → s.machine.lit ≡ true →
    looks w.steps s.machine.store.face ≡ w.shows s.machine.store.face → Stepped s w.steps w.commands w.finished before t end q v →
    s.machine.left ≡ None → Shown (w.shows s.machine.store.face) s before t end q v
shown_by w s before t end q v lit is h none =
    elim (went h.choices w.steps s.machine) [
      | inl l ↦
          let all : _ ≡ w.shows s.machine.store.face = l.looked ∙ is in
          let e : (steps h.choices w.steps s.machine).end ≡ (w.shows s.machine.store.face).end = ap (λ (k : Look). k.end) all in
          let g : (steps h.choices w.steps s.machine).given ≡ (w.shows s.machine.store.face).given = ap (λ (k : Look). k.given) all in
          record {
            verdict = h.verdict ∙ ap told_by e;
            data_in = h.data_in ∙ ap (λ (z : List ℕ). over z before) g;
            bytes = h.bytes ∙ bytes_all (steps h.choices w.steps s.machine).end (length (steps h.choices w.steps s.machine).given) _ (λ c. never_cut w.steps s.machine.store.face (sym (ap (λ (k : Look). k.end) l.looked) ∙ c)) ∙ ap length g;
            faces = ap (λ (z : State). z.machine.store.face) h.state ∙ ap (λ (k : Look). k.face) all;
            errors = ap (λ (z : State). z.machine.errors) h.state ∙ l.errors ∙ ap (λ (z : End). scored z s.machine.errors) e;
            lit = ap (λ (z : State). z.machine.lit) h.state ∙ l.lit ∙ lit;
            left = ap (λ (z : State). z.machine.left) h.state ∙ l.left none;
          }
      | inr d ↦ absurd (d.left none)
    ]

-- a READ shows the blocks up to the first that cannot be read
pub read_looks : (fua : Bool) (b n : ℕ) (f : List Content) → b + n ≤ length f → looks (read_steps fua b n) f ≡ read_shows b n f
read_looks false b n f h = looks_reads n b f h
read_looks true b zero f h = looks_reads zero b f h
read_looks true b (suc n) f h = looks_reads (suc n) b f h

-- a WRITE shows what it puts there, flushed or not
pub write_looks : (force : Force) (b : ℕ) (cs : List Content) (f : List Content) → b + length cs ≤ length f → looks (write_steps force b cs) f ≡ write_shows b cs f
write_looks force b cs f h =
    looks_join (writes (goes_through force) b cs) (flush_steps (is_flushed force) (length cs)) f
    ∙ ap (λ (k : Look). next_look k.end k.given k.face (λ q. looks (flush_steps (is_flushed force) (length cs)) q)) (looks_writes (goes_through force) cs b f h)
    ∙ flushed (is_flushed force) (length cs) (written b cs f)
  where
    flushed : (v : Bool) (n : ℕ) (g : List Content) → next_look (Ok tt) [] g (λ q. looks (flush_steps v n) q) ≡ shown g
    flushed false n g = refl
    flushed true zero g = refl
    flushed true (suc n) g = refl

-- asks and steps begin together, and the first ask has its part of the buffer as its room
abbrev pub Starts : List Ask → List Step → Type 0
Starts [] [] = Unit {0}
Starts [] (x ∷ xs) = ⊥
Starts (k ∷ ks) [] = ⊥
Starts (k ∷ ks) (x ∷ xs) = ((b : List ℕ) → room (k.carry (part k b)) ≡ part k b) × (k.gains (failed NoAnswer None) ≡ 0)

dark_done : (o : Oracle) (s : State) (t : TaskFile) (l : Load) → s.machine.lit ≡ false → perform o s t l ≡ gives no_answer (ordered s) (room l)
unfolding perform
dark_done o s t l dark = ap (λ (x : Bool). cond x (obeys o s t.block l (taken s.words t.command t.feature t.count)) (gives no_answer (ordered s) (room l))) dark

module _ {D : Type 0} (does : D → Exchange → D → Type 0) (meaning : D → State) (agrees : (x : D) (e : Exchange) (y : D) → does x e y → Agrees (meaning x) e (meaning y)) where
  -- one command to a dark drive
  dark_first : (k : Ask) (ks : List Ask) (d e : D) (b end : List ℕ) (q : Tally) (v : Verdict) → ((b : List ℕ) → room (k.carry (part k b)) ≡ part k b) → k.gains (failed NoAnswer None) ≡ 0 → (meaning d).machine.lit ≡ false →
      Held does (k ∷ ks) d b none_yet e end q v → (meaning e ≡ ordered (meaning d)) × (end ≡ b) × (q ≡ record { bytes = 0; commands = 1 }) × (v ≡ failed NoAnswer None)
  dark_first k ks d e b end q v roomy none dark held =
      let h = held_first does k ks d e b end none_yet q v held in
      let a = agrees d (made k b h.back h.answer) h.mid h.done in
      let g : gives h.answer (meaning h.mid) h.back ≡ gives no_answer (ordered (meaning d)) (part k b) =
      a.1 ∙ dark_done a.0 (meaning d) k.task (k.carry (part k b)) dark ∙ ap (gives no_answer (ordered (meaning d))) (roomy b) in
      let j : judged h.answer ≡ failed NoAnswer None = ap (λ (z : Gave). judged z.answer) g in
      let w = h.badly _ j in
      let lies : laid k h.back b ≡ b =
      ap (λ (z : Gave). laid k z.buffer b) g ∙ ap (λ (z : List ℕ). take k.at b ++ z) (take-append-drop k.len (drop k.at b)) ∙ take-append-drop k.at b in
      let counts : counted k h.answer none_yet ≡ record { bytes = 0; commands = 1 } =
      ap (λ (z : Verdict). record { bytes = 0 + k.gains z; commands = 0 + 1 }) j ∙ ap (λ (z : ℕ). record { bytes = 0 + z; commands = 0 + 1 }) none in
      (ap meaning (sym w.0) ∙ ap (λ (z : Gave). z.state) g, w.1 ∙ lies, w.2 ∙ counts, w.3)

  pub dark_by : (ks : List Ask) (w : Work) (d e : D) (n : ℕ) (b end : List ℕ) (q : Tally) (v : Verdict) (b' : List ℕ) (r : Result (Reply Fault) Refusal) → Starts ks w.steps → (meaning d).machine.lit ≡ false →
      Held does ks d (take n b) none_yet e end q v → b' ≡ end ++ drop n b → r ≡ Ok (replied v q) → Dark w (meaning d) b (meaning e) b' r
  dark_by ks w d e n b end q v b' r starts dark held is_b is-r =
      let f = by ks w.steps starts held in
      record {
        state = f.0;
        data_in = is_b ∙ ap (λ (z : List ℕ). z ++ drop n b) f.1 ∙ take-append-drop n b;
        reply = is-r ∙ ap Ok f.2;
      }
    where
      by : (ks : List Ask) (xs : List Step) → Starts ks xs → Held does ks d (take n b) none_yet e end q v → (meaning e ≡ dark_state xs (meaning d)) × (end ≡ take n b) × (replied v q ≡ dark_reply xs)
      by [] [] s h =
          let z = held_nil does d e (take n b) end none_yet q v h in
          (ap meaning (sym z.0), z.1, ap (λ (x : Verdict). replied x q) z.3 ∙ ap Good z.2)
      by [] (x ∷ xs) s h = absurd s
      by (k ∷ ks) [] s h = absurd s
      by (k ∷ ks) (x ∷ xs) s h =
          let z = dark_first k ks d e (take n b) end q v s.0 s.1 dark h in
          (z.0, z.1, ap (λ (x : Verdict). replied x q) z.3 ∙ ap (λ (y : Tally). replied (failed NoAnswer None) y) z.2)

pub read_starts : (w : Width) (fua : Bool) (t b n : ℕ) → Starts (read_asks w fua t b n) (read_steps fua b n)
unfolding pieces cut reads
read_starts w false t b zero = tt
read_starts w true t b zero = tt
read_starts w false t b (suc n) = (λ _. refl, refl)
read_starts w true t b (suc n) = (λ _. refl, refl)

pub write_starts : (w : Width) (force : Force) (t b n : ℕ) (xs : List ℕ) → n ≡ length xs / 512 → Starts (write_asks w force t b xs) (write_steps force b (blocks n xs))
unfolding pieces cut writes blocks
write_starts w force t b n xs e =
    subst (λ (m : ℕ). Starts (pieces (write_ask w (goes_through force) xs) t b m 0 ++ flush_beside w (is_flushed force) m) (write_steps force b (blocks n xs))) e (by n (is_flushed force))
  where
    by : (n : ℕ) (v : Bool) → Starts (cut n (write_ask w (goes_through force) xs) t b n 0 ++ flush_beside w v n) (writes (goes_through force) b (blocks n xs) ++ flush_steps v (length (blocks n xs)))
    by zero false = tt
    by zero true = tt
    by (suc n) v = (λ _. refl, refl)
