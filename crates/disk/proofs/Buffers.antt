-- A buffer whose front was filled, block by block.
use Rattle.std.proofs.Common.{◌≡◌, ℕ, ◌+◌, ◌*◌, ◌≤◌, List, ◌++◌, length, take, drop, sym, ap, ◌∙◌, arith}
use borrow.Rule.Slice.PartMut.{put_mid}
use Rattle.std.proofs.lemmas.List.{take-append-drop, drop-drop, length-take-le}
use Rattle.std.proofs.lemmas.Slice.{drop-put_mid}
use Rattle.ata.specs.Machine.{End}
use Rattle.ata.specs.Machine.{Machine, Outcome, ends}
use Rattle.ata.specs.Commands.{over}
use Rattle.disk.specs.Quiet.{Filled}

pub over_front : (n : ℕ) (out was : List ℕ) → n ≤ length out → drop n out ≡ drop n was → out ≡ over (take n out) was
over_front n out was h e =
    sym (take-append-drop n out)
    ∙ ap (λ (z : List ℕ). take n out ++ z) (e ∙ ap (λ (k : ℕ). drop k was) (sym (length-take-le n out h)))

-- the rest of it after one block more
pub rest_kept : (i k : ℕ) (out was block : List ℕ) → 512 * i + k ≤ 512 * (i + 1) → 512 * i ≤ length out → length block ≡ k → drop (512 * i) out ≡ drop (512 * i) was → drop (512 * (i + 1)) (put_mid (512 * i) k out block) ≡ drop (512 * (i + 1)) was
rest_kept i k out was block a h l e =
    let n : 512 * i + 512 ≡ 512 * (i + 1) = omega arith in
    drop-put_mid (512 * i) k out block (512 * (i + 1)) a h l
    ∙ ap (λ (z : ℕ). drop z out) (sym n) ∙ sym (drop-drop 512 (512 * i) out) ∙ ap (λ (z : List ℕ). drop 512 z) e ∙ drop-drop 512 (512 * i) was
    ∙ ap (λ (z : ℕ). drop z was) n

pub filled : (r : Outcome) (e : End) (g : List ℕ) (m : Machine) (was new : List ℕ) → r ≡ ends e g m → new ≡ over g was → Filled r e m was new
filled r e g m was new p q =
    record {
      ended = ap (λ (z : Outcome). z.end) p;
      machine = ap (λ (z : Outcome). z.machine) p;
      buffer = q ∙ sym (ap (λ (z : Outcome). over z.given was) p);
    }
