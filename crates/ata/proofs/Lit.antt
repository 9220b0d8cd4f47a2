-- Steps that were done, or met an unreadable block, leave power as it was.
use Rattle.std.proofs.Common.{◌≡◌, ℕ, List, sym, ◌∙◌, inl, inr, arith, Ok, Err}
use Rattle.ata.specs.declared.answer.Stop.TheVariants.{Cut}
use Rattle.ata.specs.Machine.{End, Machine, Step, Oracle, steps}
use Rattle.ata.proofs.Power.{went}

not_both : ◌≡◌ {A = End} (Err Cut) (Ok tt) → ⊥
not_both e = let z : ◌≡◌ {A = ℕ} 0 1 = cc in omega arith

pub lit_kept : (o : Oracle) (xs : List Step) (m : Machine) → (steps o xs m).end ≡ Ok tt → (steps o xs m).machine.lit ≡ m.lit
lit_kept o xs m e = elim (went o xs m) [ inl l ↦ l.lit | inr d ↦ absurd (not_both (sym d.end ∙ e)) ]
