-- What a copy of a cell leaves of the cells, and of the contents of all the blocks.
use Rattle.std.proofs.Common.{◌≡◌, ℕ, ◌+◌, ◌-◌, ◌*◌, ◌<◌, ◌≤◌, true, false, cond, eqb, ◌⊎◌, List, ◌++◌, length, get_or, take, drop, set, sym, refl, ap, ◌∙◌, inl, inr, arith}
use Rattle.std.proofs.lemmas.List.{length-take, length-take-le, length-drop, length-append, same_lists, get_or-take, get_or-drop, get_or_append_left, get_or-append_right, length-set, get_or-set_same, get_or-set_other}
use Rattle.std.proofs.lemmas.Bool.Decides.{eqb_tells}
use Rattle.ata.specs.Machine.{Content, unreadable, bytes}
use Rattle.disk.specs.Cells.{cell_at, contents}
use Rattle.disk.specs.Copied.{with_copy}
use Rattle.disk.proofs.Cells.{cell_inside, inside_true}
use Rattle.disk.proofs.Images.{length_contents, get_or_contents, apart}

pub length_with_copy : (image : List ℕ) (from to : ℕ) → from + 513 ≤ length image → to + 513 ≤ length image → length (with_copy image from to) ≡ length image
unfolding with_copy
length_with_copy image from to f h =
    let part = take 513 (drop from image) in
    let rest = drop (to + 513) image in
    let p = length-append (take to image) (part ++ rest) in
    let q = length-append part rest in
    let t = length-take-le to image (omega arith) in
    let u = length-take-le 513 (drop from image) (omega (arith, length-drop from image)) in
    let v = length-drop (to + 513) image in
    omega arith

-- a byte of the copy
byte_copied : (image : List ℕ) (from to k d : ℕ) → from + 513 ≤ length image → to + 513 ≤ length image → k < 513 → get_or (with_copy image from to) (to + k) d ≡ get_or image (from + k) d
unfolding with_copy
byte_copied image from to k d f h l =
    let part = take 513 (drop from image) in
    let rest = drop (to + 513) image in
    let n : to + k - to ≡ k = omega arith in
    get_or-append_right (take to image) (part ++ rest) to (to + k) d (length-take-le to image (omega arith)) (omega arith)
    ∙ ap (λ (j : ℕ). get_or (part ++ rest) j d) n
    ∙ get_or_append_left part rest d k (omega (arith, length-take-le 513 (drop from image) (omega (arith, length-drop from image))))
    ∙ get_or-take 513 (drop from image) k d l ∙ get_or-drop from image k d

-- a byte that stands in no part of it
byte_kept : (image : List ℕ) (from to j d : ℕ) → from + 513 ≤ length image → to + 513 ≤ length image → (j < to) ⊎ (to + 513 ≤ j) → get_or (with_copy image from to) j d ≡ get_or image j d
unfolding with_copy
byte_kept image from to j d f h (inl l) =
    get_or_append_left (take to image) (take 513 (drop from image) ++ drop (to + 513) image) d j (omega (arith, length-take-le to image (omega arith)))
    ∙ get_or-take to image j d l
byte_kept image from to j d f h (inr l) =
    let part = take 513 (drop from image) in
    let rest = drop (to + 513) image in
    let i : to + 513 + (j - (to + 513)) ≡ j = omega arith in
    let s : j - to - 513 ≡ j - (to + 513) = omega arith in
    get_or-append_right (take to image) (part ++ rest) to j d (length-take-le to image (omega arith)) (omega arith)
    ∙ get_or-append_right part rest 513 (j - to) d (length-take-le 513 (drop from image) (omega (arith, length-drop from image))) (omega arith)
    ∙ ap (λ (n : ℕ). get_or rest n d) s
    ∙ get_or-drop (to + 513) image (j - (to + 513)) d
    ∙ ap (λ (n : ℕ). get_or image n d) i

-- two cells of the same bytes
same_cell : (image new : List ℕ) (a b : ℕ) → a + 513 ≤ length image → b + 513 ≤ length new → ((k d : ℕ) → k < 513 → get_or new (b + k) d ≡ get_or image (a + k) d) → cell_at new b ≡ cell_at image a
same_cell image new a b h l f =
    let e : b ≡ b + 0 = omega arith in
    let g : a + 0 ≡ a = omega arith in
    let v = eqb (get_or image a 0) 0 in
    let mark : get_or new b 0 ≡ get_or image a 0 = ap (λ (n : ℕ). get_or new n 0) e ∙ f 0 0 (omega arith) ∙ ap (λ (n : ℕ). get_or image n 0) g in
    cell_inside new b v (inside_true new b l) (ap (λ (n : ℕ). eqb n 0) mark)
    ∙ ap (λ (xs : List ℕ). cond v (bytes xs) unreadable) part
    ∙ sym (cell_inside image a v (inside_true image a h) refl)
  where
    long : (xs : List ℕ) (at : ℕ) → at + 513 ≤ length xs → length (take 512 (drop (at + 1) xs)) ≡ 512
    long xs at w = simp (length-take, length-drop) (omega arith)

    part : take 512 (drop (b + 1) new) ≡ take 512 (drop (a + 1) image)
    part =
        same_lists (take 512 (drop (b + 1) new)) (take 512 (drop (a + 1) image)) (long new b l ∙ sym (long image a h))
        (λ k d q.
        let w : k < 512 = omega (arith, long new b l) in
        let e : b + 1 + k ≡ b + (k + 1) = omega arith in
        let g : a + (k + 1) ≡ a + 1 + k = omega arith in
        get_or-take 512 (drop (b + 1) new) k d w ∙ get_or-drop (b + 1) new k d ∙ ap (λ (n : ℕ). get_or new n d) e
        ∙ f (k + 1) d (omega arith) ∙ ap (λ (n : ℕ). get_or image n d) g
        ∙ sym (get_or-take 512 (drop (a + 1) image) k d w ∙ get_or-drop (a + 1) image k d))

pub cell_copied : (image : List ℕ) (from to : ℕ) → from + 513 ≤ length image → to + 513 ≤ length image → cell_at (with_copy image from to) to ≡ cell_at image from
cell_copied image from to f h =
    same_cell image (with_copy image from to) from to f (omega (arith, length_with_copy image from to f h)) (λ k d l. byte_copied image from to k d f h l)

pub cell_kept : (image : List ℕ) (from to other : ℕ) → from + 513 ≤ length image → to + 513 ≤ length image → other + 513 ≤ length image → (other + 513 ≤ to) ⊎ (to + 513 ≤ other) → cell_at (with_copy image from to) other ≡ cell_at image other
cell_kept image from to other f h o away =
    same_cell image (with_copy image from to) other other o (omega (arith, length_with_copy image from to f h))
    (λ k d l. byte_kept image from to (other + k) d f h (elim away [ inl t ↦ inl (omega arith) | inr t ↦ inr (omega arith) ]))

-- the blocks whose cells lie at an offset, all inside the image
abbrev pub Inside : ℕ → ℕ → ℕ → List ℕ → Type 0
Inside stride offset n image = (k : ℕ) → k < n → stride * k + offset + 513 ≤ length image

-- a copy to the cell of block b
pub contents_copied : (stride offset n : ℕ) (image : List ℕ) (from b : ℕ) → b < n → 513 ≤ stride → Inside stride offset n image → from + 513 ≤ length image → contents stride offset n (with_copy image from (stride * b + offset)) ≡ set (contents stride offset n image) b (cell_at image from)
contents_copied stride offset n image from b h g l f =
    same_lists (contents stride offset n new) (set (contents stride offset n image) b (cell_at image from))
    (length_contents stride offset n new ∙ sym (length-set (contents stride offset n image) b (cell_at image from) ∙ length_contents stride offset n image))
    (λ k d q.
    let lt : k < n = omega (arith, length_contents stride offset n new) in
    get_or_contents stride offset n new k d lt ∙ at_block k d lt (eqb_tells k b))
  where
    new : List ℕ
    new = with_copy image from (stride * b + offset)

    at_block : (k : ℕ) (d : Content) → k < n → ((eqb k b ≡ true) × (k ≡ b)) ⊎ ((eqb k b ≡ false) × (k ≡ b → ⊥)) → cell_at new (stride * k + offset) ≡ get_or (set (contents stride offset n image) b (cell_at image from)) k d
    at_block k d lt (inl q) =
        let lb : b < length (contents stride offset n image) = omega (arith, length_contents stride offset n image) in
        rw q.1 (cell_copied image from (stride * b + offset) f (l b h) ∙ sym (get_or-set_same (contents stride offset n image) b (cell_at image from) d lb))
    at_block k d lt (inr q) =
        cell_kept image from (stride * b + offset) (stride * k + offset) f (l b h) (l k lt) (apart stride offset offset k b (omega arith) (omega arith) q.1)
        ∙ sym (get_or-set_other (contents stride offset n image) b k (cell_at image from) d q.1 ∙ get_or_contents stride offset n image k d lt)

-- a copy to another cell than those of an offset
pub contents_kept : (stride offset n : ℕ) (image : List ℕ) (from to : ℕ) → from + 513 ≤ length image → to + 513 ≤ length image → Inside stride offset n image → ((k : ℕ) → k < n → (stride * k + offset + 513 ≤ to) ⊎ (to + 513 ≤ stride * k + offset)) → contents stride offset n (with_copy image from to) ≡ contents stride offset n image
contents_kept stride offset n image from to f h l away =
    same_lists (contents stride offset n (with_copy image from to)) (contents stride offset n image)
    (length_contents stride offset n (with_copy image from to) ∙ sym (length_contents stride offset n image))
    (λ k d q.
    let lt : k < n = omega (arith, length_contents stride offset n (with_copy image from to)) in
    get_or_contents stride offset n (with_copy image from to) k d lt ∙ cell_kept image from to (stride * k + offset) f h (l k lt) (away k lt) ∙ sym (get_or_contents stride offset n image k d lt))
