-- READ, WRITE and the commands without data, as steps.
use Rattle.std.proofs.Common.{◌≡◌, ℕ, zero, suc, ◌+◌, ◌-◌, ◌*◌, ◌<◌, ◌≤◌, min, Bool, true, List, [], ◌∷◌, ◌++◌, length, take, drop, sym, refl, ap, ◌∙◌, append_assoc, arith}
use Rattle.std.proofs.lemmas.List.{length-take, length-drop, drop-drop, drop-take, take-take}
use Rattle.ata.specs.Machine.{Content, bytes, Step}
use Rattle.ata.specs.Words.{wide, through, blocks_of}
use Rattle.ata.specs.Commands.{State, Formed, reads, writes, blocks}
use Rattle.ata.proofs.Ranges.{reads_split, writes_join, length_blocks}
use Rattle.transfer.specs.declared.tasks.Width.{Width}
use Rattle.transfer.specs.Tasks.{width_of, piece}
use Rattle.transfer.specs.Talk.{Ask}
use Rattle.transfer.specs.Asks.{read_ask, write_ask, cut}
use Rattle.transfer.proofs.Groups.{Group, cut_groups}
use Rattle.transfer.proofs.Plans.{Plan}
use Rattle.transfer.proofs.Comings.{reach, comes_read, comes_write}

-- a piece is as long as the drive allows, where the width is the drive's
pub piece_is : (s : State) (w : Width) → Formed s → w ≡ width_of (wide s.words) → piece w s.most ≡ s.most
piece_is s w formed e =
    let a = formed.most_some in
    let b = formed.most_fits in
    let c = reach w (wide s.words) e in
    omega arith

pub plan_reads : (f : ℕ) (ws : List ℕ) (w : Width) (t n b at to : ℕ) → w ≡ width_of (wide ws) → 0 < t → n ≤ f → b + n ≤ blocks_of ws → at + 512 * n ≤ to →
    Plan ws t at to (cut f (read_ask w) t b n at) (cut_groups f t n 512 []) (reads b n)
unfolding cut cut_groups reads
plan_reads zero ws w t zero b at to e s h k r = (refl, omega arith)
plan_reads zero ws w t (suc n) b at to e s h k r = absurd (omega arith)
plan_reads (suc f) ws w t zero b at to e s h k r = (refl, omega arith)
plan_reads (suc f) ws w t (suc n) b at to e s h k r =
    let p : ℕ = min t (suc n) in
    let i : suc n ≡ p + (suc n - p) = omega arith in (
      reads b p,
      reads (b + p) (suc n - p),
      comes_read ws t w b p at e (omega arith) (omega arith) (omega arith),
      ap (λ (z : ℕ). reads b z) i ∙ reads_split b p (suc n - p),
      refl,
      omega arith,
      plan_reads f ws w t (suc n - p) (b + p) (at + 512 * p) to e s (omega arith) (omega arith) (omega arith),
    )

-- the blocks of data, cut in two
blocks_split : (p m : ℕ) (ys : List ℕ) → blocks (p + m) ys ≡ blocks p ys ++ blocks m (drop (512 * p) ys)
unfolding blocks
blocks_split zero m ys = let e : 0 + m ≡ m = omega arith in rw e
blocks_split (suc p) m ys =
    let e : suc p + m ≡ suc (p + m) = omega arith in
    let e2 : 512 + 512 * p ≡ 512 * suc p = omega arith in
    rw e (ap (λ (r : List Content). bytes (take 512 ys) ∷ r) (blocks_split p m (drop 512 ys) ∙ ap (λ (z : List ℕ). blocks p (drop 512 ys) ++ blocks m z) (drop-drop (512 * p) 512 ys ∙ ap (λ (z : ℕ). drop z ys) e2)))

-- the first blocks of data are in its front
blocks_front : (p n : ℕ) (ys : List ℕ) → 512 * p ≤ n → blocks p (take n ys) ≡ blocks p ys
unfolding blocks
blocks_front zero n ys h = refl
blocks_front (suc p) n ys h =
    let e : n ≡ 512 + (n - 512) = omega arith in
    ap (λ (z : List ℕ). bytes z ∷ blocks p (drop 512 (take n ys))) (take-take 512 n ys (omega arith))
    ∙ ap (λ (z : List ℕ). bytes (take 512 ys) ∷ blocks p z) (ap (λ (k : ℕ). drop 512 (take k ys)) e ∙ drop-take 512 (n - 512) ys)
    ∙ ap (λ (z : List Content). bytes (take 512 ys) ∷ z) (blocks_front p (n - 512) (drop 512 ys) (omega arith))

module _ (ws : List ℕ) (w : Width) (through-it : Bool) (xs : List ℕ) (t to : ℕ) (ks : List Ask) (gs : List Group) (zs : List Step)
    (e : w ≡ width_of (wide ws)) (can : through-it ≡ true → through ws ≡ true) (some : 0 < t) (rest : Plan ws t 0 to ks gs zs) where
  pub plan_writes : (f n b at : ℕ) → n ≤ f → b + n ≤ blocks_of ws → at + 512 * n ≤ length xs →
      Plan ws t 0 to (cut f (write_ask w through-it xs) t b n at ++ ks) (cut_groups f t n 0 gs) (writes through-it b (blocks n (drop at xs)) ++ zs)
  unfolding cut cut_groups blocks writes
  plan_writes zero zero b at h k r = rest
  plan_writes zero (suc n) b at h k r = absurd (omega arith)
  plan_writes (suc f) zero b at h k r = rest
  plan_writes (suc f) (suc n) b at h k r =
      let p : ℕ = min t (suc n) in
      let m : ℕ = suc n - p in
      let ys : List ℕ = drop at xs in
      let mine : List ℕ = take (512 * p) ys in
      let i : suc n ≡ p + m = omega arith in
      let long : 512 * p ≤ length mine = simp (length-take, length-drop) (omega arith) in
      let tail : List Step = writes through-it (b + p) (blocks m (drop (at + 512 * p) xs)) in
      let cs : blocks (suc n) ys ≡ blocks p mine ++ blocks m (drop (at + 512 * p) xs) =
      ap (λ (z : ℕ). blocks z ys) i ∙ blocks_split p m ys
      ∙ ap (λ (z : List Content). z ++ blocks m (drop (512 * p) ys)) (sym (blocks_front p (512 * p) ys (omega arith)))
      ∙ ap (λ (z : List ℕ). blocks p mine ++ blocks m z) (drop-drop (512 * p) at xs) in
      let whole : writes through-it b (blocks (suc n) ys) ++ zs ≡ writes through-it b (blocks p mine) ++ (tail ++ zs) =
      ap (λ (z : List Content). writes through-it b z ++ zs) cs
      ∙ ap (λ (z : List Step). z ++ zs) (writes_join through-it b (blocks p mine) (blocks m (drop (at + 512 * p) xs)))
      ∙ ap (λ (z : ℕ). (writes through-it b (blocks p mine) ++ writes through-it (b + z) (blocks m (drop (at + 512 * p) xs))) ++ zs) (length_blocks p mine)
      ∙ append_assoc (writes through-it b (blocks p mine)) tail zs in (
        writes through-it b (blocks p mine),
        tail ++ zs,
        comes_write ws t w through-it mine b p e can (omega arith) (omega arith) (omega arith) long,
        whole,
        refl,
        omega arith,
        plan_writes f m (b + p) (at + 512 * p) (omega arith) (omega arith) (omega arith),
      )
