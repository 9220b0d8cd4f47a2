-- One turn of the copy of all cells from one side to the other.
use Rattle.std.proofs.Common.{◌≡◌, ℕ, ◌+◌, ◌*◌, ◌<◌, ◌≤◌, Bool, true, false, cond, ◌&&◌, eqb, ◌⊎◌, List, [], ◌∷◌, ◌++◌, length, get_or, take, sym, ap, ◌∙◌, inl, inr, arith}
use Rattle.std.proofs.lemmas.List.{take_more, take_more_set, take_all}
use Rattle.std.proofs.lemmas.Bool.Decides.{eqb_tells}
use Rattle.ata.specs.Machine.{Content, unreadable}
use Rattle.disk.specs.Cells.{inside, cell_at, contents}
use Rattle.disk.specs.Copied.{with_copy}
use Rattle.disk.proofs.Cells.{inside_true}
use Rattle.disk.proofs.Copies.{contents_copied, contents_kept}
use Rattle.disk.proofs.Images.{length_contents, get_or_contents, apart}
use Rattle.caching.specs.Sides.{Sides}

-- the copy of one cell, where both lie inside
pub copy_done : (image new : List ℕ) (a b : ℕ) (v : Bool) → a + 513 ≤ length image → b + 513 ≤ length image → v ≡ (inside image a && inside image b) → new ≡ cond v (with_copy image a b) image → new ≡ with_copy image a b
copy_done image new a b v h l r e =
    let i = inside_true image a h in
    let j = inside_true image b l in
    let t : v ≡ true = r ∙ ap (λ (x : Bool). x && inside image b) i ∙ j in
    e ∙ ap (λ (x : Bool). cond x (with_copy image a b) image) t

-- the cells on the side copied from share no byte with one on the other
away : (from to k b : ℕ) → Sides from to → (1026 * k + from + 513 ≤ 1026 * b + to) ⊎ (1026 * b + to + 513 ≤ 1026 * k + from)
away from to k b s = by (eqb_tells k b)
  where
    by : ((eqb k b ≡ true) × (k ≡ b)) ⊎ ((eqb k b ≡ false) × (k ≡ b → ⊥)) → (1026 * k + from + 513 ≤ 1026 * b + to) ⊎ (1026 * b + to + 513 ≤ 1026 * k + from)
    by (inl q) = elim s.apart [ inl t ↦ inl (omega (arith, q.1)) | inr t ↦ inr (omega (arith, q.1)) ]
    by (inr q) = apart 1026 to from k b (omega (arith, s.from_fits)) (omega (arith, s.to_fits)) q.1

pub from_kept : (from to n : ℕ) (image new : List ℕ) (b : ℕ) → Sides from to → 1026 * n ≤ length image → b < n → new ≡ with_copy image (1026 * b + from) (1026 * b + to) → contents 1026 from n new ≡ contents 1026 from n image
from_kept from to n image new b s l h e =
    let p = s.from_fits in
    let q = s.to_fits in
    ap (λ (xs : List ℕ). contents 1026 from n xs) e
    ∙ contents_kept 1026 from n image (1026 * b + from) (1026 * b + to) (omega arith) (omega arith) (λ k lt. omega arith) (λ k lt. away from to k b s)

-- one block more on the side copied to is as on the other
pub to_more : (from to n : ℕ) (first image new : List ℕ) (b : ℕ) → Sides from to → 1026 * n ≤ length image → b < n → new ≡ with_copy image (1026 * b + from) (1026 * b + to) → contents 1026 from n image ≡ contents 1026 from n first → take b (contents 1026 to n image) ≡ take b (contents 1026 from n first) → take (b + 1) (contents 1026 to n new) ≡ take (b + 1) (contents 1026 from n first)
to_more from to n first image new b s l h e f t =
    let p = s.from_fits in
    let q = s.to_fits in
    let k = cell_at image (1026 * b + from) in
    let src = contents 1026 from n first in
    let dst = contents 1026 to n image in
    let is : get_or src b unreadable ≡ k = ap (λ (xs : List Content). get_or xs b unreadable) (sym f) ∙ get_or_contents 1026 from n image b unreadable h in
    ap (λ (xs : List ℕ). take (b + 1) (contents 1026 to n xs)) e
    ∙ ap (λ (xs : List Content). take (b + 1) xs) (contents_copied 1026 to n image (1026 * b + from) b h (omega arith) (λ k lt. omega arith) (omega arith))
    ∙ take_more_set dst b k (omega (arith, length_contents 1026 to n image))
    ∙ (λ i. t i ++ (sym is i ∷ []))
    ∙ sym (take_more src b unreadable (omega (arith, length_contents 1026 from n first)))

pub all_copied : (from to n : ℕ) (first image : List ℕ) (b : ℕ) → n ≤ b → take b (contents 1026 to n image) ≡ take b (contents 1026 from n first) → contents 1026 to n image ≡ contents 1026 from n first
all_copied from to n first image b h t =
    sym (take_all b (contents 1026 to n image) (omega (arith, length_contents 1026 to n image)))
    ∙ t ∙ take_all b (contents 1026 from n first) (omega (arith, length_contents 1026 from n first))
