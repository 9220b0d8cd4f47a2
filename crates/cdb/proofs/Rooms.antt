-- A request that was taken in has the room that its command needs.
use Rattle.std.proofs.Common.{◌≡◌, ℕ, ◌≤◌, Bool, true, false, cond, List, [], ◌∷◌, length, Ok, Err, arith}
use Rattle.sense.specs.declared.refusal.Refusal.TheVariants.{CdbLength}
use Rattle.cdb.specs.declared.command.Command.{Command}
use Rattle.cdb.specs.declared.command.Command.TheVariants.{TestUnitReady, ReadCapacity, Read, Write}
use Rattle.cdb.specs.declared.operation.Operation.{Operation}
use Rattle.cdb.specs.declared.operation.Operation.TheVariants.{TestUnitReady as TestOp, ReadCapacity as CapacityOp, Read as ReadOp, Write as WriteOp, Unknown}
use Rattle.cdb.specs.declared.request.Request.{Request}
use Rattle.cdb.specs.Requests.{received, requested, judged_field, length_fits, operation_of}
use Rattle.cdb.specs.Rooms.{Room}

judged_room : (wrong : Bool) (c : Command) (out room : ℕ) → Room (Ok c) out room → Room (judged_field wrong c) out room
judged_room true c out room h = tt
judged_room false c out room h = h

requested_room : (op : Operation) (cdb : List ℕ) (out room : ℕ) → (requested op cdb).out ≤ out → (requested op cdb).into ≤ room → Room (requested op cdb).command out room
requested_room TestOp cdb out room h k = judged_room _ TestUnitReady out room tt
requested_room CapacityOp cdb out room h k = judged_room _ ReadCapacity out room k
requested_room ReadOp cdb out room h k = judged_room _ (Read _ _) out room k
requested_room WriteOp cdb out room h k = judged_room _ (Write _ _) out room h
requested_room Unknown cdb out room h k = tt

pub received_room : (cdb : List ℕ) (q : Request) (out room : ℕ) → received cdb ≡ Ok q → q.out ≤ out → q.into ≤ room → Room q.command out room
received_room [] q out room e h k = grind arith
received_room (code ∷ rest) q out room e h k = by (length_fits code (length (code ∷ rest))) e
  where
    by : (v : Bool) → cond v (Ok (requested (operation_of code) (code ∷ rest))) (Err CdbLength) ≡ Ok q → Room q.command out room
    by true f =
        let is : requested (operation_of code) (code ∷ rest) ≡ q = cc in
        rw (← is) (requested_room (operation_of code) (code ∷ rest) out room (rw is h) (rw is k))
    by false f = grind arith
