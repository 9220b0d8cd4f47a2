-- Ranges of blocks and the parts of the buffers that belong to them.
use Rattle.std.proofs.Common.{◌≡◌, ℕ, ◌*◌, ◌/◌, ◌≤◌, false, List, length, take, arith}
use Rattle.std.proofs.lemmas.List.{length-take-le}
use Rattle.std.proofs.lemmas.Bool.Decides.{nat_tests}
use Rattle.cdb.specs.declared.command.Extent.{Extent}
use Rattle.unit.specs.declared.known.Facts.{Facts}
use Rattle.unit.specs.Fitness.{InRange}
use Rattle.unit.specs.Courses.{past}

pub not_past : (f : Facts) (x : Extent) (start : ℕ) → InRange f x start → past f x ≡ false
not_past f x start h =
    let i = h.first in
    let j = h.last in
    grind (arith, nat_tests)

pub whole_blocks : (n : ℕ) (xs : List ℕ) → 512 * n ≤ length xs → length (take (512 * n) xs) / 512 ≡ n
whole_blocks n xs h =
    let e : length (take (512 * n) xs) ≡ 512 * n = length-take-le (512 * n) xs h in
    omega arith
