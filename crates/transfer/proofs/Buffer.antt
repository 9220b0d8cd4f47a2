-- Bytes put into a buffer.
use Rattle.std.proofs.Common.{◌≡◌, ℕ, ◌+◌, ◌≤◌, List, [], ◌++◌, length, take, drop, sym, ap, ◌∙◌, append_assoc, arith}
use Rattle.std.proofs.lemmas.List.{length-append, length-take, length-drop, take_at, drop_at, drop-drop, drop-append-le, take-append-drop}
use Rattle.ata.specs.Commands.{over}

-- new bytes over those from a place on
unfoldable pub put : ℕ → List ℕ → List ℕ → List ℕ
put at new old = take at old ++ (new ++ drop (at + length new) old)

pub put_none : (at : ℕ) (d : List ℕ) → put at [] d ≡ d
unfolding put
put_none at d = let e : at + 0 ≡ at = omega arith in rw e (take-append-drop at d)

pub put_start : (new d : List ℕ) → put 0 new d ≡ over new d
unfolding put
put_start new d = let e : 0 + length new ≡ length new = omega arith in rw e

pub put_put : (at : ℕ) (us vs d : List ℕ) → at + length us ≤ length d → put (at + length us) vs (put at us d) ≡ put at (us ++ vs) d
unfolding put
put_put at us vs d h =
    let n = at + length us in
    let front = take at d ++ us in
    let rest = drop (at + length us) d in
    let k : length front ≡ n = simp (length-append, length-take) (omega arith) in
    let e : take at d ++ (us ++ rest) ≡ front ++ rest = sym (append_assoc (take at d) us rest) in
    let t : take n (take at d ++ (us ++ rest)) ≡ front = ap (take n) e ∙ take_at front rest n k in
    let u : drop n (take at d ++ (us ++ rest)) ≡ rest = ap (drop n) e ∙ drop_at front rest n k in
    let w : drop (n + length vs) (take at d ++ (us ++ rest)) ≡ drop (n + length vs) d =
    sym (drop-drop (length vs) n (take at d ++ (us ++ rest))) ∙ ap (drop (length vs)) u ∙ drop-drop (length vs) n d in
    let z : at + length (us ++ vs) ≡ n + length vs = simp length-append (omega arith) in
    rw (t, w, z) (simp append_assoc)

pub put_length : (at : ℕ) (us d : List ℕ) → at + length us ≤ length d → length (put at us d) ≡ length d
unfolding put
put_length at us d h = simp (length-append, length-take, length-drop) (omega arith)

pub put_mid : (a k : ℕ) (xs new : List ℕ) → a + k ≤ length xs → length new ≤ k → take a xs ++ (over new (take k (drop a xs)) ++ drop k (drop a xs)) ≡ put a new xs
unfolding put
put_mid a k xs new h l =
    let y = drop a xs in
    let m = length new in
    let i : length (take k y) ≡ k = simp (length-take, length-drop) (omega arith) in
    let j : m ≤ length (take k y) = omega arith in
    let e : drop m (take k y) ++ drop k y ≡ drop (a + m) xs =
    sym (drop-append-le m (take k y) (drop k y) j) ∙ ap (drop m) (take-append-drop k y) ∙ drop-drop m a xs in
    ap (λ r. take a xs ++ r) (append_assoc new (drop m (take k y)) (drop k y) ∙ ap (λ r. new ++ r) e)
