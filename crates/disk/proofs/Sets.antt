-- Contents are plain data: two proofs that they are equal are one.
use Rattle.std.proofs.Common.{◌≡◌, ℕ, List, refl, ap, arith}
use mathlib.Core.List.{List-discrete, is_set}
use mathlib.Core.HLevel.{hedberg}
use mathlib.Core.Logic.{∥∥₁_elim}
use native.Mathlib.Decide.{ℕ_discrete}
use Rattle.ata.specs.Machine.{Content, unreadable, bytes}

discrete : Discrete Content
discrete unreadable unreadable = yes refl
discrete unreadable (bytes ys) = no (λ e. let z : ◌≡◌ {A = ℕ} 0 1 = cc in omega arith)
discrete (bytes xs) unreadable = no (λ e. let z : ◌≡◌ {A = ℕ} 0 1 = cc in omega arith)
discrete (bytes xs) (bytes ys) = by (List-discrete ℕ_discrete xs ys)
  where
    by : Dec (xs ≡ ys) → Dec (bytes xs ≡ bytes ys)
    by (yes e) = yes (ap bytes e)
    by (no w) = no (λ e. w (cc))

pub untruncated : (xs ys : List Content) → ∥ xs ≡ ys ∥₁ → xs ≡ ys
untruncated xs ys t = ∥∥₁_elim t (is_set (hedberg discrete) xs ys) (λ e. e)
