-- What a cell holds, by its place and its mark, and what a write to one leaves of the others.
use Rattle.std.proofs.Common.{◌≡◌, ℕ, ◌+◌, ◌-◌, ◌<◌, ◌≤◌, min, Bool, true, false, cond, eqb, leb, ◌⊎◌, List, [], ◌∷◌, ◌++◌, length, get_or, take, drop, set, sym, ap, ◌∙◌, inl, inr, arith}
use borrow.Rule.Slice.PartMut.{put_mid}
use Rattle.std.proofs.lemmas.List.{append_assoc, take_more_set, drop-drop, drop-set-lt, length-take, length-take-le, length-drop, length-append, same_lists, get_or-take, get_or-drop, get_or_append_left, get_or-append_right, get_or_at, drop_at, take_at}
use Rattle.std.proofs.lemmas.Bool.Decides.{leb_tells}
use Rattle.ata.specs.Machine.{unreadable, bytes}
use Rattle.ata.specs.Commands.{Sector}
use Rattle.disk.specs.Cells.{marked, inside, cell_at, with_cell}

pub cell_outside : (image : List ℕ) (at : ℕ) → inside image at ≡ false → cell_at image at ≡ unreadable
unfolding cell_at
cell_outside image at h = ap (λ (v : Bool). cond v (marked (get_or image at 0) (take 512 (drop (at + 1) image))) unreadable) h

pub cell_inside : (image : List ℕ) (at : ℕ) (v : Bool) → inside image at ≡ true → eqb (get_or image at 0) 0 ≡ v → cell_at image at ≡ cond v (bytes (take 512 (drop (at + 1) image))) unreadable
unfolding cell_at
cell_inside image at v h m =
    ap (λ (w : Bool). cond w (marked (get_or image at 0) (take 512 (drop (at + 1) image))) unreadable) h
    ∙ ap (λ (w : Bool). cond w (bytes (take 512 (drop (at + 1) image))) unreadable) m

pub inside_true : (image : List ℕ) (at : ℕ) → at + 513 ≤ length image → inside image at ≡ true
inside_true image at h = elim (leb_tells (at + 513) (length image)) [ inl t ↦ t.0 | inr t ↦ absurd (omega arith) ]

-- a content of 512 bytes, whatever the image
pub cell_sector : (image : List ℕ) (at : ℕ) → Sector (cell_at image at)
unfolding cell_at
cell_sector image at = by (leb_tells (at + 513) (length image))
  where
    held : (v : Bool) (xs : List ℕ) → length xs ≡ 512 → Sector (cond v (bytes xs) unreadable)
    held true xs e = e
    held false xs e = tt

    by : ((leb (at + 513) (length image) ≡ true) × (at + 513 ≤ length image)) ⊎ ((leb (at + 513) (length image) ≡ false) × (length image < at + 513)) → Sector (cell_at image at)
    by (inl t) =
        let l : length (take 512 (drop (at + 1) image)) ≡ 512 = simp (length-take, length-drop) (omega (arith, t.1)) in
        rw t.0 (held (eqb (get_or image at 0) 0) (take 512 (drop (at + 1) image)) l)
    by (inr t) = rw t.0 tt

-- the two writes to an image that write a cell
pub written : (image ys xs : List ℕ) (at k : ℕ) → at + 513 ≤ length image → k ≡ 512 → ys ≡ xs → put_mid (at + 1) k (set image at 0) ys ≡ with_cell image at xs
unfolding with_cell
written image ys xs at k h e f =
    let n : at + 1 + k ≡ at + 513 = omega arith in
    ap (λ (z : List ℕ). z ++ (ys ++ drop k (drop (at + 1) (set image at 0)))) (take_more_set image at 0 (omega arith))
    ∙ append_assoc (take at image) (0 ∷ []) (ys ++ drop k (drop (at + 1) (set image at 0)))
    ∙ ap (λ (z : List ℕ). take at image ++ (0 ∷ (ys ++ z))) (drop-drop k (at + 1) (set image at 0) ∙ ap (λ (i : ℕ). drop i (set image at 0)) n ∙ drop-set-lt (at + 513) image at 0 (omega arith))
    ∙ ap (λ (z : List ℕ). take at image ++ (0 ∷ (z ++ drop (at + 513) image))) f

pub length_with_cell : (image xs : List ℕ) (at : ℕ) → at + 513 ≤ length image → length xs ≡ 512 → length (with_cell image at xs) ≡ length image
unfolding with_cell
length_with_cell image xs at h e =
    length-append (take at image) (0 ∷ (xs ++ drop (at + 513) image))
    ∙ (let p = length-take-le at image (omega arith) in
    let q = length-append xs (drop (at + 513) image) in
    let r = length-drop (at + 513) image in
    omega arith)

-- the cell that was written
pub cell_same : (image xs : List ℕ) (at : ℕ) → at + 513 ≤ length image → length xs ≡ 512 → cell_at (with_cell image at xs) at ≡ bytes xs
unfolding with_cell
cell_same image xs at h e =
    let t = length-take-le at image (omega arith) in
    let m : eqb (get_or (with_cell image at xs) at 0) 0 ≡ true =
    ap (λ (v : ℕ). eqb v 0) (get_or_at (take at image) 0 (xs ++ drop (at + 513) image) 0 at t) in
    let b : take 512 (drop (at + 1) (with_cell image at xs)) ≡ xs = content_same image xs at t e in
    cell_inside (with_cell image at xs) at true (inside_true (with_cell image at xs) at (omega (arith, length_with_cell image xs at h e))) m
    ∙ ap (λ (z : List ℕ). bytes z) b
  where
    content_same : (image xs : List ℕ) (at : ℕ) → length (take at image) ≡ at → length xs ≡ 512 → take 512 (drop (at + 1) (take at image ++ (0 ∷ (xs ++ drop (at + 513) image)))) ≡ xs
    content_same image xs at t e =
        ap (λ (z : List ℕ). take 512 z) (sym (drop-drop 1 at (take at image ++ (0 ∷ (xs ++ drop (at + 513) image)))) ∙ ap (λ (z : List ℕ). drop 1 z) (drop_at (take at image) (0 ∷ (xs ++ drop (at + 513) image)) at t))
        ∙ take_at xs (drop (at + 513) image) 512 e

-- a byte that stands in no part of the cell that was written
pub byte_other : (image xs : List ℕ) (at j d : ℕ) → at + 513 ≤ length image → length xs ≡ 512 → (j < at) ⊎ (at + 513 ≤ j) → get_or (with_cell image at xs) j d ≡ get_or image j d
unfolding with_cell
byte_other image xs at j d h e (inl l) =
    get_or_append_left (take at image) (0 ∷ (xs ++ drop (at + 513) image)) d j (omega (arith, length-take-le at image (omega arith)))
    ∙ get_or-take at image j d l
byte_other image xs at j d h e (inr l) =
    let i : at + 513 + (j - (at + 513)) ≡ j = omega arith in
    get_or-append_right (take at image) (0 ∷ (xs ++ drop (at + 513) image)) at j d (length-take-le at image (omega arith)) (omega arith)
    ∙ get_or-append_right (0 ∷ xs) (drop (at + 513) image) 513 (j - at) d (omega arith) (omega arith)
    ∙ ap (λ (n : ℕ). get_or (drop (at + 513) image) n d) (let s : j - at - 513 ≡ j - (at + 513) = omega arith in s)
    ∙ get_or-drop (at + 513) image (j - (at + 513)) d
    ∙ ap (λ (n : ℕ). get_or image n d) i

-- a part in which two images of one length agree
same_part : (at n : ℕ) (image new : List ℕ) → length new ≡ length image → ((j d : ℕ) → at ≤ j → j < at + n → get_or new j d ≡ get_or image j d) → take n (drop at new) ≡ take n (drop at image)
same_part at n image new e f =
    same_lists (take n (drop at new)) (take n (drop at image))
    (simp (length-take, length-drop) (ap (λ (m : ℕ). min n (m - at)) e))
    (λ k d h.
    let l : k < n = omega (arith, length-take n (drop at new)) in
    get_or-take n (drop at new) k d l ∙ get_or-drop at new k d ∙ f (at + k) d (omega arith) (omega arith)
    ∙ sym (get_or-take n (drop at image) k d l ∙ get_or-drop at image k d))

-- a cell that shares no byte with the one that was written
pub cell_other : (image xs : List ℕ) (at other : ℕ) → at + 513 ≤ length image → length xs ≡ 512 → (other + 513 ≤ at) ⊎ (at + 513 ≤ other) → cell_at (with_cell image at xs) other ≡ cell_at image other
unfolding cell_at
cell_other image xs at other h e away =
    let n = length_with_cell image xs at h e in
    let off : (j : ℕ) → other ≤ j → j < other + 513 → (j < at) ⊎ (at + 513 ≤ j) =
    λ j p q. elim away [ inl t ↦ inl (omega arith) | inr t ↦ inr (omega arith) ] in
    let m : get_or (with_cell image at xs) other 0 ≡ get_or image other 0 = byte_other image xs at other 0 h e (off other (omega arith) (omega arith)) in
    let s : take 512 (drop (other + 1) (with_cell image at xs)) ≡ take 512 (drop (other + 1) image) =
    same_part (other + 1) 512 image (with_cell image at xs) n (λ j d p q. byte_other image xs at j d h e (off j (omega arith) (omega arith))) in
    ap (λ (k : ℕ). cond (leb (other + 513) k) (marked (get_or (with_cell image at xs) other 0) (take 512 (drop (other + 1) (with_cell image at xs)))) unreadable) n
    ∙ ap (λ (k : ℕ). cond (inside image other) (marked k (take 512 (drop (other + 1) (with_cell image at xs)))) unreadable) m
    ∙ ap (λ (z : List ℕ). cond (inside image other) (marked (get_or image other 0) z) unreadable) s
