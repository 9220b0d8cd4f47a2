-- The pieces of a range, by the first.
use Rattle.std.proofs.Common.{◌≡◌, ℕ, zero, suc, ◌+◌, ◌-◌, ◌*◌, ◌<◌, ◌≤◌, min, Bool, true, List, [], ◌∷◌, sym, refl, ap, ◌∙◌, inl, inr, arith}
use Rattle.std.proofs.lemmas.Bool.Decides.{leb_tells}
use Rattle.transfer.specs.Talk.{Ask}
use Rattle.transfer.specs.declared.tasks.Width.{Width}
use Rattle.transfer.specs.Tasks.{flush_task}
use Rattle.transfer.specs.Asks.{plain_ask, cut, pieces, flush_beside}

-- fuel beyond the number of blocks changes nothing
cut_same : (f g : ℕ) (ask : ℕ → ℕ → ℕ → Ask) (t b n at : ℕ) → 0 < t → n ≤ f → n ≤ g → cut f ask t b n at ≡ cut g ask t b n at
unfolding cut
cut_same zero zero ask t b n at s h k = refl
cut_same zero (suc g) ask t b zero at s h k = refl
cut_same zero (suc g) ask t b (suc n) at s h k = absurd (omega arith)
cut_same (suc f) zero ask t b zero at s h k = refl
cut_same (suc f) zero ask t b (suc n) at s h k = absurd (omega arith)
cut_same (suc f) (suc g) ask t b zero at s h k = refl
cut_same (suc f) (suc g) ask t b (suc n) at s h k =
    ap (λ (r : List Ask). ask b (min t (suc n)) at ∷ r)
    (cut_same f g ask t (b + min t (suc n)) (suc n - min t (suc n)) (at + 512 * min t (suc n)) s (omega arith) (omega arith))

pub pieces_none : (ask : ℕ → ℕ → ℕ → Ask) (t b n at : ℕ) → n ≡ 0 → pieces ask t b n at ≡ []
unfolding pieces cut
pieces_none ask t b n at e = ap (λ (k : ℕ). cut k ask t b k at) e

-- the first piece, and those from the next one on
pub pieces_more : (ask : ℕ → ℕ → ℕ → Ask) (t b n at p b' n' at' : ℕ) → 0 < t → 0 < n → p ≡ min t n → b' ≡ b + t → n' ≡ n - t → at' ≡ at + 512 * t →
    pieces ask t b n at ≡ ask b p at ∷ pieces ask t b' n' at'
unfolding pieces cut
pieces_more ask t b n at p b' n' at' s h e x y z =
    pieces_by n h refl ∙ elim (leb_tells t n) [
      | inl l ↦ same (omega arith) (omega arith) (omega arith)
      | inr l ↦ ap (λ (r : List Ask). ask b p at ∷ r) (pieces_none ask t (b + p) (n - p) (at + 512 * p) (omega arith) ∙ sym (pieces_none ask t b' n' at' (omega arith)))
    ]
  where
    pieces_by : (m : ℕ) → 0 < m → n ≡ m → pieces ask t b n at ≡ ask b p at ∷ pieces ask t (b + p) (n - p) (at + 512 * p)
    pieces_by zero h w = absurd (omega arith)
    pieces_by (suc m) h w =
        rw (w, e, w) (ap (λ (r : List Ask). ask b (min t (suc m)) at ∷ r)
        (cut_same m (suc m - min t (suc m)) ask t (b + min t (suc m)) (suc m - min t (suc m)) (at + 512 * min t (suc m)) s (omega arith) (omega arith)))

    same : b + p ≡ b' → n - p ≡ n' → at + 512 * p ≡ at' → ask b p at ∷ pieces ask t (b + p) (n - p) (at + 512 * p) ≡ ask b p at ∷ pieces ask t b' n' at'
    same i j k = rw (i, j, k)

-- beside at least one block there is a flush
pub flush_some : (w : Width) (v : Bool) (n : ℕ) → v ≡ true → (n ≡ 0 → ⊥) → flush_beside w v n ≡ plain_ask (flush_task w) ∷ []
flush_some w v zero t h = absurd (h refl)
flush_some w v (suc n) t h = ap (λ (z : Bool). flush_beside w z (suc n)) t
