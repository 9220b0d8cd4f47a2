-- What a command does to the blocks, whatever its course.
use Rattle.std.proofs.Common.{◌≡◌, ℕ, ◌*◌, Bool, true, false, cond, List, [], ◌∷◌, length, take, Ok, Err, Result, sym, refl, ap, ◌∙◌, subst, arith}
use Rattle.std.proofs.lemmas.Bool.Decides.{nat_tests}
use Rattle.ata.specs.Words.{wide, through, blocks_of}
use Rattle.ata.specs.Commands.{State, Formed, blocks}
use Rattle.ata.specs.Exchange.{Exchange, Agrees}
use Rattle.sense.specs.declared.case.Sense.{Sense}
use Rattle.sense.specs.declared.refusal.Refusal.{Refusal}
use Rattle.cdb.specs.declared.command.Command.{Command}
use Rattle.cdb.specs.declared.command.Command.TheVariants.{TestUnitReady, ReadCapacity, Read, Write}
use Rattle.cdb.specs.declared.command.Extent.{Extent}
use Rattle.ata.specs.Machine.{Step}
use Rattle.sense.specs.declared.case.Sense.TheVariants.{PastEnd}
use Rattle.transfer.specs.declared.faults.Fault.{Fault}
use Rattle.transfer.specs.declared.faults.Place.TheVariants.{Cdb as CdbPlace}
use Rattle.transfer.specs.Tasks.{width_of, piece}
use Rattle.transfer.specs.Asks.{read_asks, write_asks}
use Rattle.transfer.specs.Steps.{read_work, write_work}
use Rattle.unit.specs.declared.known.Facts.{Facts}
use Rattle.unit.specs.declared.standing.Phase.{Phase}
use Rattle.unit.specs.declared.standing.Phase.TheVariants.{Unfit, Attention, Ready}
use Rattle.unit.specs.declared.replies.Reply.{Reply}
use Rattle.unit.specs.Fitness.{InRange}
use Rattle.unit.specs.Courses.{Course, refused, stopped, answers, asks, past, course_of, in_phase, Comes, calm, phase_after, force_by}
use Rattle.cdb.specs.Rooms.{Room}
use Rattle.unit.specs.Attached.{Knows, Remembers}
use Rattle.unit.specs.Works.{Works, dark_state}
use Rattle.unit.proofs.Worked.{read_worked, write_worked, idle_worked}

in_range : (f : Facts) (x : Extent) → past f x ≡ false → InRange f x x.block
in_range f x h = record { first = grind (arith, nat_tests); last = grind (arith, nat_tests); is = refl }

module _ {D : Type 0} (does : D → Exchange → D → Type 0) (meaning : D → State) (formed : (x : D) → Formed (meaning x)) (agrees : (x : D) (e : Exchange) (y : D) → does x e y → Agrees (meaning x) e (meaning y))
    (d e : D) (out b b' : List ℕ) (r : Result (Reply Fault) Refusal) where
  abbrev Does : Course → Type 0
  Does k = Comes does k d b e b' r → Works k (meaning d) b (meaning e) b' r

  stays : (e ≡ d) → meaning e ≡ meaning d
  stays i = ap meaning i

  course_works : (f : Facts) (c : Command) → Room (Ok c) (length out) (length b) → Knows f (meaning d) → Does (course_of f (meaning d).most out c)
  course_works f TestUnitReady room knows h = idle_worked does meaning formed agrees f d e b h.0 h.1 h.2 b' r knows h.5 h.4 h.3
  course_works f ReadCapacity room knows h = stays h.0
  course_works f (Read fua x) room knows h = by (past f x) refl h
    where
      ready : Course
      ready = asks (512 * x.count) (read_asks f.width fua (piece f.width (meaning d).most) x.block x.count) (read_work (meaning d).most fua x.block x.count)

      by : (v : Bool) → past f x ≡ v → Does (cond v (stopped CdbPlace PastEnd) ready)
      by true p h = stays h.0
      by false p h = read_worked does meaning formed agrees f d e b h.0 h.1 h.2 b' r knows h.5 fua x x.block (in_range f x p) room h.4 h.3
  course_works f (Write fua x) room knows h = by (past f x) refl h
    where
      ready : Course
      ready =
          asks 0 (write_asks f.width (force_by fua f.through) (piece f.width (meaning d).most) x.block (take (512 * x.count) out))
          (write_work (meaning d).most (force_by fua f.through) x.block (blocks x.count (take (512 * x.count) out)))

      by : (v : Bool) → past f x ≡ v → Does (cond v (stopped CdbPlace PastEnd) ready)
      by true p h = stays h.0
      by false p h = write_worked does meaning formed agrees f d e b h.0 h.1 h.2 b' r knows h.5 fua x x.block out (in_range f x p) room h.4 h.3

  pub phase_works : (p : Phase) (c : Result Command Sense) → Room c (length out) (length b) → Remembers p (meaning d) → Does (in_phase p (meaning d).most out c)
  phase_works Unfit c room knows h = stays h.0
  phase_works (Attention f) c room knows h = stays h.0
  phase_works (Ready f) (Err s) room knows h = stays h.0
  phase_works (Ready f) (Ok c) room knows h = course_works f c room knows h

  -- what is remembered stays true
  knows_on : (f : Facts) → Knows f (meaning d) → (meaning e).words ≡ (meaning d).words → Knows f (meaning e)
  knows_on f k w =
      record {
        blocks = k.blocks ∙ sym (formed d).blocks_true ∙ ap blocks_of (sym w) ∙ (formed e).blocks_true;
        width = k.width ∙ ap (λ (z : List ℕ). width_of (wide z)) (sym w);
        through = k.through ∙ ap through (sym w);
      }

  -- no course changes the words
  words_kept : (k : Course) → Works k (meaning d) b (meaning e) b' r → (meaning e).words ≡ (meaning d).words
  words_kept (refused n) h = ap (λ (z : State). z.words) h
  words_kept (stopped at x) h = ap (λ (z : State). z.words) h
  words_kept (answers xs) h = ap (λ (z : State). z.words) h
  words_kept (asks n ks w) h = by (meaning d).machine.lit refl
    where
      dark_words : (xs : List Step) (s : State) → (dark_state xs s).words ≡ s.words
      dark_words [] s = refl
      dark_words (x ∷ xs) s = refl

      by : (v : Bool) → (meaning d).machine.lit ≡ v → (meaning e).words ≡ (meaning d).words
      by true l = ap (λ (z : State). z.words) (h.0 l).stepped.state
      by false l = ap (λ (z : State). z.words) (h.1 l).state ∙ dark_words w.steps (meaning d)

  remembers_words : (p : Phase) → (meaning e).words ≡ (meaning d).words → Remembers p (meaning d) → Remembers p (meaning e)
  remembers_words Unfit w k = tt
  remembers_words (Attention f) w k = knows_on f k w
  remembers_words (Ready f) w k = knows_on f k w

  remembers_calm : (p : Phase) (s : State) → Remembers p s → Remembers (calm p) s
  remembers_calm Unfit s k = k
  remembers_calm (Attention f) s k = k
  remembers_calm (Ready f) s k = k

  remembers_after : (k : Course) (p : Phase) (s : State) → Remembers p s → Remembers (phase_after k p) s
  remembers_after (refused n) p s h = h
  remembers_after (stopped at x) p s h = remembers_calm p s h
  remembers_after (answers xs) p s h = remembers_calm p s h
  remembers_after (asks n ks w) p s h = remembers_calm p s h

  pub remembers_on : (k : Course) (p p' : Phase) → p' ≡ phase_after k p → Works k (meaning d) b (meaning e) b' r → Remembers p (meaning d) → Remembers p' (meaning e)
  remembers_on k p p' i w h =
      subst (λ (z : Phase). Remembers z (meaning e)) (sym i)
      (remembers_after k p (meaning e) (remembers_words p (words_kept k w) h))
