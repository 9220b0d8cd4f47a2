-- What a step does once it has its power, by what the block holds.
use Rattle.std.proofs.Common.{◌≡◌, ℕ, true, false, [], get_or, refl, ap, ◌∙◌, arith, Ok, Err}
use Rattle.ata.specs.declared.answer.Stop.TheVariants.{Unreadable}
use Rattle.ata.specs.Machine.{Content, unreadable, bytes, Machine, read_step, verify_step, act, ends, end_of_read, bytes_of_read, scored, one_error_more}
use Rattle.disk.specs.Cells.{readable}
use Rattle.disk.specs.Powers.{with_errors}

pub read_done : (m : Machine) (b : ℕ) (k : Content) → get_or m.store.face b unreadable ≡ k → readable k ≡ true → act (read_step b) m.left m ≡ ends (Ok tt) (bytes_of_read k) m
read_done m b k e h =
    ap (λ (c : Content). ends (end_of_read c b) (bytes_of_read c) (with_errors m (scored (end_of_read c b) m.errors))) e ∙ by k h
  where
    by : (k : Content) → readable k ≡ true → ends (end_of_read k b) (bytes_of_read k) (with_errors m (scored (end_of_read k b) m.errors)) ≡ ends (Ok tt) (bytes_of_read k) m
    by unreadable t = let z : ◌≡◌ {A = ℕ} 0 1 = cc in absurd (omega arith)
    by (bytes xs) t = refl

pub read_stopped : (m : Machine) (b : ℕ) (k : Content) → get_or m.store.face b unreadable ≡ k → readable k ≡ false → act (read_step b) m.left m ≡ ends (Err (Unreadable b)) [] (with_errors m (one_error_more m.errors))
read_stopped m b k e h =
    ap (λ (c : Content). ends (end_of_read c b) (bytes_of_read c) (with_errors m (scored (end_of_read c b) m.errors))) e ∙ by k h
  where
    by : (k : Content) → readable k ≡ false → ends (end_of_read k b) (bytes_of_read k) (with_errors m (scored (end_of_read k b) m.errors)) ≡ ends (Err (Unreadable b)) [] (with_errors m (one_error_more m.errors))
    by unreadable t = refl
    by (bytes xs) t = let z : ◌≡◌ {A = ℕ} 0 1 = cc in absurd (omega arith)

pub verify_done : (m : Machine) (b : ℕ) (k : Content) → get_or m.store.face b unreadable ≡ k → readable k ≡ true → act (verify_step b) m.left m ≡ ends (Ok tt) [] m
verify_done m b k e h =
    ap (λ (c : Content). ends (end_of_read c b) [] (with_errors m (scored (end_of_read c b) m.errors))) e ∙ by k h
  where
    by : (k : Content) → readable k ≡ true → ends (end_of_read k b) [] (with_errors m (scored (end_of_read k b) m.errors)) ≡ ends (Ok tt) [] m
    by unreadable t = let z : ◌≡◌ {A = ℕ} 0 1 = cc in absurd (omega arith)
    by (bytes xs) t = refl

pub verify_stopped : (m : Machine) (b : ℕ) (k : Content) → get_or m.store.face b unreadable ≡ k → readable k ≡ false → act (verify_step b) m.left m ≡ ends (Err (Unreadable b)) [] (with_errors m (one_error_more m.errors))
verify_stopped m b k e h =
    ap (λ (c : Content). ends (end_of_read c b) [] (with_errors m (scored (end_of_read c b) m.errors))) e ∙ by k h
  where
    by : (k : Content) → readable k ≡ false → ends (end_of_read k b) [] (with_errors m (scored (end_of_read k b) m.errors)) ≡ ends (Err (Unreadable b)) [] (with_errors m (one_error_more m.errors))
    by unreadable t = refl
    by (bytes xs) t = let z : ◌≡◌ {A = ℕ} 0 1 = cc in absurd (omega arith)
