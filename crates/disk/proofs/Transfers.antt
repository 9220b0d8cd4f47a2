-- The steps of a transfer, by their places.
use Rattle.std.proofs.Common.{◌≡◌, ℕ, zero, suc, ◌+◌, ◌*◌, ◌<◌, Bool, List, [], ◌∷◌, length, get_or, take, drop, refl, ap, ◌∙◌, arith}
use Rattle.std.proofs.lemmas.List.{drop-drop}
use Rattle.ata.specs.Machine.{Content, unreadable, bytes, read_step, verify_step, write_step, idle_step}
use Rattle.ata.specs.Commands.{reads, verifies, writes, blocks}

pub length_reads : (b n : ℕ) → length (reads b n) ≡ n
unfolding reads
length_reads b zero = refl
length_reads b (suc n) = ap suc (length_reads (suc b) n)

pub get_or_reads : (b n i : ℕ) → i < n → get_or (reads b n) i idle_step ≡ read_step (b + i)
unfolding reads
get_or_reads b zero i h = absurd (omega arith)
get_or_reads b (suc n) zero h = let e : b ≡ b + 0 = omega arith in ap read_step e
get_or_reads b (suc n) (suc i) h = let e : suc b + i ≡ b + suc i = omega arith in get_or_reads (suc b) n i (omega arith) ∙ ap read_step e

pub length_verifies : (b n : ℕ) → length (verifies b n) ≡ n
unfolding verifies
length_verifies b zero = refl
length_verifies b (suc n) = ap suc (length_verifies (suc b) n)

pub get_or_verifies : (b n i : ℕ) → i < n → get_or (verifies b n) i idle_step ≡ verify_step (b + i)
unfolding verifies
get_or_verifies b zero i h = absurd (omega arith)
get_or_verifies b (suc n) zero h = let e : b ≡ b + 0 = omega arith in ap verify_step e
get_or_verifies b (suc n) (suc i) h = let e : suc b + i ≡ b + suc i = omega arith in get_or_verifies (suc b) n i (omega arith) ∙ ap verify_step e

length_blocks : (n : ℕ) (xs : List ℕ) → length (blocks n xs) ≡ n
unfolding blocks
length_blocks zero xs = refl
length_blocks (suc n) xs = ap suc (length_blocks n (drop 512 xs))

get_or_blocks : (n : ℕ) (xs : List ℕ) (i : ℕ) → i < n → get_or (blocks n xs) i unreadable ≡ bytes (take 512 (drop (512 * i) xs))
unfolding blocks
get_or_blocks zero xs i h = absurd (omega arith)
get_or_blocks (suc n) xs zero h = refl
get_or_blocks (suc n) xs (suc i) h =
    let e : 512 + 512 * i ≡ 512 * suc i = omega arith in
    get_or_blocks n (drop 512 xs) i (omega arith) ∙ ap (λ (z : List ℕ). bytes (take 512 z)) (drop-drop (512 * i) 512 xs ∙ ap (λ (k : ℕ). drop k xs) e)

length_writes_of : (t : Bool) (b : ℕ) (cs : List Content) → length (writes t b cs) ≡ length cs
unfolding writes
length_writes_of t b [] = refl
length_writes_of t b (c ∷ cs) = ap suc (length_writes_of t (suc b) cs)

get_or_writes_of : (t : Bool) (b : ℕ) (cs : List Content) (i : ℕ) → i < length cs → get_or (writes t b cs) i idle_step ≡ write_step t (b + i) (get_or cs i unreadable)
unfolding writes
get_or_writes_of t b [] i h = absurd (omega arith)
get_or_writes_of t b (c ∷ cs) zero h = let e : b ≡ b + 0 = omega arith in ap (λ (k : ℕ). write_step t k c) e
get_or_writes_of t b (c ∷ cs) (suc i) h =
    let e : suc b + i ≡ b + suc i = omega arith in
    get_or_writes_of t (suc b) cs i (omega arith) ∙ ap (λ (k : ℕ). write_step t k (get_or cs i unreadable)) e

pub length_writes : (t : Bool) (b n : ℕ) (xs : List ℕ) → length (writes t b (blocks n xs)) ≡ n
length_writes t b n xs = length_writes_of t b (blocks n xs) ∙ length_blocks n xs

pub get_or_writes : (t : Bool) (b n : ℕ) (xs : List ℕ) (i : ℕ) → i < n → get_or (writes t b (blocks n xs)) i idle_step ≡ write_step t (b + i) (bytes (take 512 (drop (512 * i) xs)))
get_or_writes t b n xs i h =
    get_or_writes_of t b (blocks n xs) i (omega (arith, length_blocks n xs)) ∙ ap (λ (c : Content). write_step t (b + i) c) (get_or_blocks n xs i h)
