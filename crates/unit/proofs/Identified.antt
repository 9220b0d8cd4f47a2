-- A unit that begins fit remembers what is true of its drive.
use Rattle.std.proofs.Common.{◌≡◌, ℕ, ◌+◌, Bool, true, false, cond, List, [], ◌∷◌, ◌++◌, length, drop, replicate, sym, ap, ◌∙◌, arith, get_or-set_other, Ok, Err}
use Rattle.std.proofs.lemmas.List.{append-nil, length-set}
use Rattle.ata.specs.declared.answer.Answer.{Answer}
use Rattle.ata.specs.Machine.{End}
use Rattle.ata.specs.declared.answer.Stop.TheVariants.{Unreadable, Cut}
use Rattle.ata.specs.declared.task.AtaCommand.TheVariants.{IdentifyDevice}
use Rattle.ata.specs.Machine.{Oracle, Outcome, idle_step, steps}
use Rattle.ata.specs.Words.{word, wide, through, blocks_of, showing}
use Rattle.ata.specs.Commands.{State, Formed, Gave, fetches_words, gives, no_answer, ordered, answered, over, told, tells, perform}
use Rattle.ata.specs.Exchange.{Exchange, exchange, Agrees}
use Rattle.transfer.specs.Tasks.{width_of, task}
use Rattle.transfer.specs.Talk.{judged}
use Rattle.unit.specs.declared.standing.Phase.{Phase}
use Rattle.unit.specs.declared.standing.Phase.TheVariants.{Unfit, Attention, Ready}
use Rattle.unit.specs.Attached.{fit_by, Begins, Identified, Remembers}

-- word 85 alone moves
same_word : (on : Bool) (ws : List ℕ) (i : ℕ) → (i ≡ 85 → ⊥) → word (showing on ws) i ≡ word ws i
same_word on ws i h = get_or-set_other ws 85 i (word ws 85 + cond on 32 0) 0 h

same_wide : (on : Bool) (ws : List ℕ) → wide (showing on ws) ≡ wide ws
same_wide on ws = let a = same_word on ws 83 (λ e. absurd (omega arith)) in simp a

same_through : (on : Bool) (ws : List ℕ) → through (showing on ws) ≡ through ws
same_through on ws = let a = same_word on ws 84 (λ e. absurd (omega arith)) in simp a

same_blocks : (on : Bool) (ws : List ℕ) → blocks_of (showing on ws) ≡ blocks_of ws
same_blocks on ws =
    let a = same_word on ws 83 (λ e. absurd (omega arith)) in
    let b = same_word on ws 100 (λ e. absurd (omega arith)) in
    let c = same_word on ws 101 (λ e. absurd (omega arith)) in
    let d = same_word on ws 102 (λ e. absurd (omega arith)) in
    let e = same_word on ws 103 (λ e. absurd (omega arith)) in
    let f = same_word on ws 60 (λ e. absurd (omega arith)) in
    let g = same_word on ws 61 (λ e. absurd (omega arith)) in
    simp (a, b, c, d, e, f, g)

abbrev blank : List ℕ
blank = replicate 256 0

whole_words : (ws : List ℕ) → length ws ≡ 256 → over ws blank ≡ ws
whole_words ws h = ap (λ (n : ℕ). ws ++ drop n blank) h ∙ append-nil ws

not_fit : {X : Type 0} (v : Bool) → v ≡ true → v ≡ false → X
not_fit v p q = let z : ◌≡◌ {A = ℕ} 0 1 = cc in absurd (omega arith)

module _ (s t : State) (words : List ℕ) (answer : Answer) (formed : Formed s) (fit : fit_by (judged answer) words ≡ true) where
  abbrev Told : Type 0
  Told = (words ≡ showing s.machine.store.caching s.words) × (t.words ≡ s.words)

  by_run : (r : Outcome) → gives answer t words ≡ tells s blank r → Told
  by_run r e = by r.end (ap (λ (g : Gave). g.answer) e) (ap (λ (g : Gave). g.buffer) e)
    where
      shown : List ℕ
      shown = showing s.machine.store.caching s.words

      long : length shown ≡ 256
      long = length-set s.words 85 (word s.words 85 + cond s.machine.store.caching 32 0) ∙ formed.words_long

      by : (x : End) → answer ≡ answered x → words ≡ told x shown blank → Told
      by (Ok tt) a w = (w ∙ whole_words shown long, ap (λ (g : Gave). g.state.words) e)
      by (Err (Unreadable b)) a w = not_fit (fit_by (judged answer) words) fit (ap (λ (z : Answer). fit_by (judged z) words) a)
      by (Err Cut) a w = not_fit (fit_by (judged answer) words) fit (ap (λ (z : Answer). fit_by (judged z) words) a)

  told_true : (o : Oracle) → gives answer t words ≡ perform o s (task IdentifyDevice 0 0) (fetches_words blank) → Told
  unfolding perform
  told_true o e = by s.machine.lit e
    where
      by : (v : Bool) → gives answer t words ≡ cond v (tells s blank (steps o (idle_step ∷ []) s.machine)) (gives no_answer (ordered s) blank) → Told
      by true f = by_run (steps o (idle_step ∷ []) s.machine) f
      by false f = not_fit (fit_by (judged answer) words) fit (ap (λ (g : Gave). fit_by (judged g.answer) words) f)

pub identified_knows : {D : Type 0} (does : D → Exchange → D → Type 0) (meaning : D → State) (formed : (x : D) → Formed (meaning x)) (agrees : (x : D) (e : Exchange) (y : D) → does x e y → Agrees (meaning x) e (meaning y))
    (d e : D) (p : Phase) → Identified does d e p → Remembers p (meaning e)
identified_knows does meaning formed agrees d e p h = by p h.begins
  where
    a : Agrees (meaning d) (exchange (task IdentifyDevice 0 0) (fetches_words blank) h.words h.answer) (meaning e)
    a = agrees d (exchange (task IdentifyDevice 0 0) (fetches_words blank) h.words h.answer) e h.sent

    by : (p : Phase) → Begins (judged h.answer) h.words p → Remembers p (meaning e)
    by Unfit b = tt
    by (Ready f) b = absurd b
    by (Attention f) b =
        let t = told_true (meaning d) (meaning e) h.words h.answer (formed d) b.0 a.0 a.1 in
        let on = (meaning d).machine.store.caching in
        let ws = (meaning d).words in
        record {
          blocks = b.1.blocks ∙ ap blocks_of t.0 ∙ same_blocks on ws ∙ ap blocks_of (sym t.1) ∙ (formed e).blocks_true;
          width = b.1.width ∙ ap (λ (z : List ℕ). width_of (wide z)) t.0 ∙ ap width_of (same_wide on ws) ∙ ap (λ (z : List ℕ). width_of (wide z)) (sym t.1);
          through = b.1.through ∙ ap through t.0 ∙ same_through on ws ∙ ap through (sym t.1);
        }
