-- What a command comes to, by cases.
use Rattle.std.proofs.Common.{◌≡◌, Bool, true, false, cond, sym, ap, ◌∙◌}
use Rattle.ata.specs.declared.task.TaskFile.{TaskFile}
use Rattle.ata.specs.Machine.{Oracle}
use Rattle.ata.specs.Commands.{State, Load, Gave, Order, gives, no_answer, ordered, room, taken, obeys, perform}

pub perform_dark : (o : Oracle) (s : State) (t : TaskFile) (l : Load) → s.machine.lit ≡ false → gives no_answer (ordered s) (room l) ≡ perform o s t l
unfolding perform
perform_dark o s t l h =
    ap (λ (v : Bool). cond v (obeys o s t.block l (taken s.words t.command t.feature t.count)) (gives no_answer (ordered s) (room l))) (sym h)

pub perform_lit : (o : Oracle) (s : State) (t : TaskFile) (l : Load) (x : Order) (g : Gave) → s.machine.lit ≡ true → x ≡ taken s.words t.command t.feature t.count → g ≡ obeys o s t.block l x → g ≡ perform o s t l
unfolding perform
perform_lit o s t l x g h e f =
    f ∙ ap (λ (y : Order). obeys o s t.block l y) e
    ∙ ap (λ (v : Bool). cond v (obeys o s t.block l (taken s.words t.command t.feature t.count)) (gives no_answer (ordered s) (room l))) (sym h)
