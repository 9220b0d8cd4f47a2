-- The course of a call, by what its request needs of the buffers.
use Rattle.std.proofs.Common.{◌≡◌, ℕ, ◌≤◌, Bool, true, false, cond, ltb, List, length, Ok, Err, Result, refl, ap, ◌∙◌, arith}
use Rattle.std.proofs.lemmas.Bool.Decides.{nat_tests}
use Rattle.sense.specs.declared.case.Sense.{Sense}
use Rattle.cdb.specs.declared.command.Command.{Command}
use Rattle.cdb.specs.declared.command.Command.TheVariants.{TestUnitReady, ReadCapacity, Read, Write}
use Rattle.cdb.specs.declared.request.Request.{Request}
use Rattle.cdb.specs.Requests.{received}
use Rattle.unit.specs.declared.known.Facts.{Facts}
use Rattle.unit.specs.declared.standing.Phase.{Phase}
use Rattle.unit.specs.declared.standing.Phase.TheVariants.{Unfit, Attention, Ready}
use Rattle.unit.specs.Courses.{Course, course, taken_in, in_phase, course_of, past, phase_after, calm}

module _ (p : Phase) (most : ℕ) (cdb out : List ℕ) (room : ℕ) (q : Request) (taken : received cdb ≡ Ok q) where
  pub with_both : q.out ≤ length out → q.into ≤ room → course p most cdb out room ≡ in_phase p most out q.command
  with_both h i =
      let e : ltb (length out) q.out ≡ false = grind (arith, nat_tests) in
      let e2 : ltb room q.into ≡ false = grind (arith, nat_tests) in
      ap (taken_in p most out room) taken ∙ rw e (rw e2 refl)

-- past the buffers nothing is turned away by number, so an attention ends
calm_either : (v : Bool) (k l : Course) (p : Phase) → phase_after k p ≡ calm p → phase_after l p ≡ calm p → phase_after (cond v k l) p ≡ calm p
calm_either true k l p a b = a
calm_either false k l p a b = b

calm_course : (f : Facts) (most : ℕ) (out : List ℕ) (c : Command) (p : Phase) → phase_after (course_of f most out c) p ≡ calm p
calm_course f most out TestUnitReady p = refl
calm_course f most out ReadCapacity p = refl
calm_course f most out (Read fua x) p = calm_either (past f x) _ _ p refl refl
calm_course f most out (Write fua x) p = calm_either (past f x) _ _ p refl refl

pub calmed : (p : Phase) (most : ℕ) (out : List ℕ) (c : Result Command Sense) → phase_after (in_phase p most out c) p ≡ calm p
calmed Unfit most out c = refl
calmed (Attention f) most out c = refl
calmed (Ready f) most out (Err s) = refl
calmed (Ready f) most out (Ok c) = calm_course f most out c (Ready f)
