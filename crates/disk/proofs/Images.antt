-- The contents of all the blocks of an image, at any stride and offset.
use Rattle.std.proofs.Common.{◌≡◌, ℕ, ◌+◌, ◌*◌, ◌<◌, ◌≤◌, true, false, eqb, leb, ◌≢◌, ◌⊎◌, List, length, get_or, set, sym, ◌∙◌, inl, inr, mul-le-mul_left, mul-add, arith}
use Rattle.std.proofs.lemmas.List.FromFn.{length-map-range_with_len, get_or-map-range_with_len}
use Rattle.std.proofs.lemmas.List.{same_lists, length-set, get_or-set_same, get_or-set_other, get_or_past}
use Rattle.std.proofs.lemmas.Bool.Decides.{leb_tells, eqb_tells}
use Rattle.ata.specs.Machine.{Content, unreadable, bytes}
use Rattle.ata.specs.Commands.{Sector}
use Rattle.disk.specs.Cells.{cell_at, with_cell, contents}
use Rattle.disk.proofs.Cells.{cell_sector, cell_same, cell_other}

pub length_contents : (stride offset n : ℕ) (image : List ℕ) → length (contents stride offset n image) ≡ n
unfolding contents
length_contents stride offset n image = length-map-range_with_len (λ b. cell_at image (stride * b + offset)) 0 n

pub get_or_contents : (stride offset n : ℕ) (image : List ℕ) (b : ℕ) (d : Content) → b < n → get_or (contents stride offset n image) b d ≡ cell_at image (stride * b + offset)
unfolding contents
get_or_contents stride offset n image b d h = get_or-map-range_with_len (λ b. cell_at image (stride * b + offset)) 0 n b b d h (omega arith)

pub contents_sectors : (stride offset n : ℕ) (image : List ℕ) (k : ℕ) → Sector (get_or (contents stride offset n image) k unreadable)
contents_sectors stride offset n image k = by (leb_tells n k)
  where
    by : ((leb n k ≡ true) × (n ≤ k)) ⊎ ((leb n k ≡ false) × (k < n)) → Sector (get_or (contents stride offset n image) k unreadable)
    by (inl t) = rw (get_or_past (contents stride offset n image) k unreadable (omega (arith, t.1, length_contents stride offset n image))) tt
    by (inr t) = rw (get_or_contents stride offset n image k unreadable t.1) (cell_sector image (stride * k + offset))

-- cells of different blocks share no byte where the stride holds a cell
pub apart : (stride offset other k b : ℕ) → other + 513 ≤ stride + offset → offset + 513 ≤ stride + other → k ≢ b → (stride * k + other + 513 ≤ stride * b + offset) ⊎ (stride * b + offset + 513 ≤ stride * k + other)
apart stride offset other k b h g ne = by (leb_tells k b)
  where
    by : ((leb k b ≡ true) × (k ≤ b)) ⊎ ((leb k b ≡ false) × (b < k)) → (stride * k + other + 513 ≤ stride * b + offset) ⊎ (stride * b + offset + 513 ≤ stride * k + other)
    by (inl t) =
        let lt : k + 1 ≤ b = omega (arith, t.1, ne) in
        let m : stride * (k + 1) ≤ stride * b = mul-le-mul_left stride lt in
        let d = mul-add stride k 1 in
        inl (omega arith)
    by (inr t) =
        let lt : b + 1 ≤ k = omega (arith, t.1) in
        let m : stride * (b + 1) ≤ stride * k = mul-le-mul_left stride lt in
        let d = mul-add stride b 1 in
        inr (omega arith)

-- a write to the cell of block b
pub contents_write : (stride offset n : ℕ) (image xs : List ℕ) (b : ℕ) → b < n → 513 ≤ stride → stride * b + offset + 513 ≤ length image → length xs ≡ 512 → contents stride offset n (with_cell image (stride * b + offset) xs) ≡ set (contents stride offset n image) b (bytes xs)
contents_write stride offset n image xs b h g l e =
    same_lists (contents stride offset n new) (set (contents stride offset n image) b (bytes xs))
    (length_contents stride offset n new ∙ sym (length-set (contents stride offset n image) b (bytes xs) ∙ length_contents stride offset n image))
    (λ k d q.
    let lt : k < n = omega (arith, length_contents stride offset n new) in
    get_or_contents stride offset n new k d lt ∙ at_block k d lt (eqb_tells k b))
  where
    new : List ℕ
    new = with_cell image (stride * b + offset) xs

    at_block : (k : ℕ) (d : Content) → k < n → ((eqb k b ≡ true) × (k ≡ b)) ⊎ ((eqb k b ≡ false) × (k ≡ b → ⊥)) → cell_at new (stride * k + offset) ≡ get_or (set (contents stride offset n image) b (bytes xs)) k d
    at_block k d lt (inl q) =
        let lb : b < length (contents stride offset n image) = omega (arith, length_contents stride offset n image) in
        rw q.1 (cell_same image xs (stride * b + offset) l e ∙ sym (get_or-set_same (contents stride offset n image) b (bytes xs) d lb))
    at_block k d lt (inr q) =
        cell_other image xs (stride * b + offset) (stride * k + offset) l e (apart stride offset offset k b (omega arith) (omega arith) q.1)
        ∙ sym (get_or-set_other (contents stride offset n image) b k (bytes xs) d q.1 ∙ get_or_contents stride offset n image k d lt)

-- a write to another cell than those of an offset
pub contents_apart : (stride offset n : ℕ) (image xs : List ℕ) (at : ℕ) → at + 513 ≤ length image → length xs ≡ 512 → ((k : ℕ) → k < n → (stride * k + offset + 513 ≤ at) ⊎ (at + 513 ≤ stride * k + offset)) → contents stride offset n (with_cell image at xs) ≡ contents stride offset n image
contents_apart stride offset n image xs at l e away =
    same_lists (contents stride offset n (with_cell image at xs)) (contents stride offset n image)
    (length_contents stride offset n (with_cell image at xs) ∙ sym (length_contents stride offset n image))
    (λ k d q.
    let lt : k < n = omega (arith, length_contents stride offset n (with_cell image at xs)) in
    get_or_contents stride offset n (with_cell image at xs) k d lt ∙ cell_other image xs at (stride * k + offset) l e (away k lt) ∙ sym (get_or_contents stride offset n image k d lt))
