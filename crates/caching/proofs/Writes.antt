-- What a write of a cell of one side leaves of both.
use Rattle.std.proofs.Common.{◌≡◌, ℕ, ◌+◌, ◌*◌, ◌<◌, ◌≤◌, true, false, eqb, ◌⊎◌, List, length, set, ap, ◌∙◌, inl, inr, arith}
use Rattle.std.proofs.lemmas.Bool.Decides.{eqb_tells}
use Rattle.ata.specs.Machine.{bytes}
use Rattle.disk.specs.Cells.{with_cell}
use Rattle.disk.proofs.Images.{apart, contents_write, contents_apart}
use Rattle.caching.specs.Sides.{faces, media}

-- a face and a medium share no byte
between : (k b : ℕ) → (1026 * k + 0 + 513 ≤ 1026 * b + 513) ⊎ (1026 * b + 513 + 513 ≤ 1026 * k + 0)
between k b = by (eqb_tells k b)
  where
    by : ((eqb k b ≡ true) × (k ≡ b)) ⊎ ((eqb k b ≡ false) × (k ≡ b → ⊥)) → (1026 * k + 0 + 513 ≤ 1026 * b + 513) ⊎ (1026 * b + 513 + 513 ≤ 1026 * k + 0)
    by (inl q) = inl (omega (arith, q.1))
    by (inr q) = apart 1026 513 0 k b (omega arith) (omega arith) q.1

other_way : {A B : Type 0} → A ⊎ B → B ⊎ A
other_way (inl a) = inr a
other_way (inr b) = inl b

pub face_faces : (n : ℕ) (image new xs : List ℕ) (b : ℕ) → b < n → 1026 * b + 1026 ≤ length image → length xs ≡ 512 → new ≡ with_cell image (1026 * b + 513) xs → faces n new ≡ set (faces n image) b (bytes xs)
face_faces n image new xs b h l e f = ap (λ (ys : List ℕ). faces n ys) f ∙ contents_write 1026 513 n image xs b h (omega arith) (omega arith) e

pub face_media : (n : ℕ) (image new xs : List ℕ) (b : ℕ) → 1026 * b + 1026 ≤ length image → length xs ≡ 512 → new ≡ with_cell image (1026 * b + 513) xs → media n new ≡ media n image
face_media n image new xs b l e f = ap (λ (ys : List ℕ). media n ys) f ∙ contents_apart 1026 0 n image xs (1026 * b + 513) (omega arith) e (λ k lt. between k b)

pub medium_media : (n : ℕ) (image new xs : List ℕ) (b : ℕ) → b < n → 1026 * b + 1026 ≤ length image → length xs ≡ 512 → new ≡ with_cell image (1026 * b + 0) xs → media n new ≡ set (media n image) b (bytes xs)
medium_media n image new xs b h l e f = ap (λ (ys : List ℕ). media n ys) f ∙ contents_write 1026 0 n image xs b h (omega arith) (omega arith) e

pub medium_faces : (n : ℕ) (image new xs : List ℕ) (b : ℕ) → 1026 * b + 1026 ≤ length image → length xs ≡ 512 → new ≡ with_cell image (1026 * b + 0) xs → faces n new ≡ faces n image
medium_faces n image new xs b l e f = ap (λ (ys : List ℕ). faces n ys) f ∙ contents_apart 1026 513 n image xs (1026 * b + 0) (omega arith) e (λ k lt. other_way (between b k))
