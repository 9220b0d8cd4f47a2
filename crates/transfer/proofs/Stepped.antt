-- What a conversation is to the blocks: READ, WRITE and the commands without data by their steps alone.
use Rattle.std.proofs.Common.{◌≡◌, ℕ, zero, suc, ◌+◌, ◌-◌, ◌*◌, ◌/◌, ◌<◌, ◌≤◌, min, Bool, true, false, List, [], ◌∷◌, ◌++◌, length, sym, refl, ap, ◌∙◌, subst, mul-zero, zero-add, arith, Ok, Err}
use native.Mathlib.Nat.{div-eq_of_lt}
use Rattle.std.proofs.lemmas.List.{length-append}
use Rattle.ata.specs.Machine.{End}
use Rattle.ata.specs.declared.answer.Stop.TheVariants.{Unreadable, Cut}
use Rattle.ata.specs.declared.task.AtaCommand.TheVariants.{CheckPowerMode}
use Rattle.ata.specs.Machine.{Step, flush_step, idle_step, Oracle, begun}
use Rattle.ata.specs.Words.{wide, through}
use Rattle.ata.specs.Commands.{State, Formed, size, reads, writes, blocks}
use Rattle.ata.specs.Exchange.{Exchange, Agrees}
use Rattle.ata.proofs.Joins.{begun_few}
use Rattle.ata.proofs.Ranges.{length_reads, length_writes, length_blocks}
use Rattle.transfer.specs.declared.counts.Tally.{Tally}
use Rattle.transfer.specs.declared.tasks.Width.{Width}
use Rattle.transfer.specs.declared.writing.Force.{Force}
use Rattle.transfer.specs.Tasks.{width_of, piece, task}
use Rattle.transfer.specs.Talk.{Verdict, Ask, Held, none_yet}
use Rattle.transfer.specs.Asks.{plain_ask, read_ask, write_ask, cut, pieces, flush_beside, read_asks, write_asks, goes_through, is_flushed}
use Rattle.transfer.specs.Steps.{flush_steps, flushes, read_steps, write_steps, bytes_by, pieces_of, commands_by, read_commands, read_finished, write_commands, none_finished, after_commands, Stepped}
use Rattle.transfer.proofs.Buffer.{put_start}
use Rattle.transfer.proofs.Groups.{Group, group, commands_of, finished_of, cut_groups, commands_cut, finished_cut, commands_none, commands_nothing, commands_first, finished_first, commands_past, finished_past, pieces_zero, Bare, finished_bare, bare_cut}
use Rattle.transfer.proofs.Plans.{Keep, Plan, Stepping, run, planned, cut_begun}
use Rattle.transfer.proofs.Comings.{comes_flush, comes_idle}
use Rattle.transfer.proofs.Transfers.{piece_is, plan_reads, plan_writes}

bytes_same : (e : End) (given f g : ℕ) → (e ≡ Err Cut → f ≡ g) → bytes_by e given f ≡ bytes_by e given g
bytes_same (Ok tt) given f g h = refl
bytes_same (Err (Unreadable x)) given f g h = refl
bytes_same (Err Cut) given f g h = h refl

-- from groups to the numbers that they come to
stepped_by : (s : State) (gs : List Group) (ys : List Step) (commands finished : ℕ → ℕ) (buffer : List ℕ) (t : State) (end : List ℕ) (q : Tally) (r : Verdict) →
    ((j : ℕ) → j ≤ length ys → commands_of gs j ≡ commands j) → ((j : ℕ) → 0 < j → j ≤ length ys → finished_of gs j ≡ finished j) →
    Stepping s gs ys 0 buffer none_yet t end q r → Stepped s ys commands finished buffer t end q r
stepped_by s gs ys commands finished buffer t end q r c f h =
    let o : Oracle = h.choices in
    let j : ℕ = begun o ys s.machine in
    let low : j ≤ length ys = begun_few ys o s.machine in
    let many : q.commands ≡ commands_of gs j = h.commands ∙ omega arith in
    record {
      choices = o;
      state = h.state ∙ ap (λ (n : ℕ). after_commands s n (run o ys s).machine) (sym many);
      data_in = h.data_in ∙ put_start (run o ys s).given buffer;
      verdict = h.verdict;
      counted = many ∙ c j low;
      bytes = h.bytes ∙ zero-add (bytes_by (run o ys s).end (length (run o ys s).given) (finished_of gs j))
          ∙ bytes_same (run o ys s).end (length (run o ys s).given) (finished_of gs j) (finished j) (λ e. f j (cut_begun ys o s.machine e) low);
    }

abbrev flush_groups : Bool → ℕ → List Group
flush_groups false n = []
flush_groups true zero = []
flush_groups true (suc n) = group 1 0 ∷ []

length_flush : (v : Bool) (n : ℕ) → length (flush_steps v n) ≡ flushes v n
length_flush false n = refl
length_flush true zero = refl
length_flush true (suc n) = refl

abbrev base : ℕ → ℕ → List Group
base t n = cut_groups n t n 512 []

base_commands : (t n j : ℕ) → 0 < t → commands_of (base t n) j ≡ pieces_of t (min j n)
base_commands t n j some = let a = commands_cut n t n 512 [] some (omega arith) j in let b = commands_none (j - n) in omega arith

-- READ's numbers
read_counts : (t n : ℕ) (fua : Bool) → 0 < t → (j : ℕ) → j ≤ flushes fua n + n → commands_of (flush_groups fua n ++ base t n) j ≡ read_commands t fua n j
read_counts t n false some j low =
    let e : j - 0 ≡ j = omega arith in
    let a = base_commands t n j some in
    rw e (omega arith)
read_counts t zero true some j low =
    let e : j - 0 ≡ j = omega arith in
    let a = base_commands t zero j some in
    rw e (omega arith)
read_counts t (suc n) true some zero low =
    let a = commands_first_none (base t (suc n)) in
    let e : min (0 - 1) (suc n) ≡ 0 = omega arith in
    let b : pieces_of t (min (0 - 1) (suc n)) ≡ 0 = ap (pieces_of t) e ∙ pieces_zero t some in
    omega arith
  where
    commands_first_none : (gs : List Group) → commands_of (group 1 0 ∷ gs) 0 ≡ 0
    commands_first_none gs = commands_nothing (group 1 0) gs
read_counts t (suc n) true some (suc j) low =
    let a = commands_past (group 1 0) (base t (suc n)) j (suc j) (omega arith) (omega arith) in
    let b = base_commands t (suc n) j some in
    let e : suc j - 1 ≡ j = omega arith in
    rw e (omega arith)

read_ends : (t n : ℕ) (fua : Bool) → 0 < t → (j : ℕ) → 0 < j → j ≤ flushes fua n + n → finished_of (flush_groups fua n ++ base t n) j ≡ read_finished t fua n j
read_ends t n false some j pos low =
    let e : j - 0 ≡ j = omega arith in
    rw e (finished_cut n t n 512 some (omega arith) j pos (omega arith))
read_ends t zero true some j pos low = absurd (omega arith)
read_ends t (suc n) true some zero pos low = absurd (omega arith)
read_ends t (suc n) true some (suc zero) pos low =
    let e : 1 - 1 - 1 ≡ 0 = refl in
    let d : 0 / t ≡ 0 = div-eq_of_lt some in
    finished_first (group 1 0) (base t (suc n)) 1 (omega arith) ∙ sym (ap (λ (z : ℕ). 512 * (t * z)) d ∙ ap (λ (z : ℕ). 512 * z) (mul-zero t))
read_ends t (suc n) true some (suc (suc j)) pos low =
    let e : suc (suc j) - 1 - 1 ≡ suc j - 1 = omega arith in
    finished_past (group 1 0) (base t (suc n)) (suc j) (suc (suc j)) (omega arith) (omega arith)
    ∙ zero-add (finished_of (base t (suc n)) (suc j)) ∙ finished_cut (suc n) t (suc n) 512 some (omega arith) (suc j) (omega arith) (omega arith)
    ∙ ap (λ (z : ℕ). 512 * (t * (z / t))) (sym e)

-- WRITE's numbers
write_counts : (t n : ℕ) (flushed : Bool) → 0 < t → (j : ℕ) → j ≤ n + flushes flushed n → commands_of (cut_groups n t n 0 (flush_groups flushed n)) j ≡ write_commands t n j
write_counts t n flushed some j low =
    let a = commands_cut n t n 0 (flush_groups flushed n) some (omega arith) j in
    let b : commands_of (flush_groups flushed n) (j - n) ≡ j - n = tail flushed n (j - n) (omega arith) in
    let e : j - 0 ≡ j = omega arith in
    rw e (omega arith)
  where
    tail : (v : Bool) (n i : ℕ) → i ≤ flushes v n → commands_of (flush_groups v n) i ≡ i
    tail false n i h = commands_none i ∙ omega arith
    tail true zero i h = commands_none i ∙ omega arith
    tail true (suc n) zero h = commands_nothing (group 1 0) []
    tail true (suc n) (suc zero) h = commands_first (group 1 0) [] 1 (omega arith) (omega arith)
    tail true (suc n) (suc (suc i)) h = absurd (omega arith)

flush_bare : (v : Bool) (n : ℕ) → Bare (flush_groups v n)
flush_bare false n = tt
flush_bare true zero = tt
flush_bare true (suc n) = (refl, tt)

plan_flush : (ws : List ℕ) (w : Width) (t to : ℕ) (v : Bool) (n : ℕ) (ks : List Ask) (gs : List Group) (zs : List Step) → w ≡ width_of (wide ws) → Plan ws t 0 to ks gs zs →
    Plan ws t 0 to (flush_beside w v n ++ ks) (flush_groups v n ++ gs) (flush_steps v n ++ zs)
plan_flush ws w t to false n ks gs zs e h = h
plan_flush ws w t to true zero ks gs zs e h = h
plan_flush ws w t to true (suc n) ks gs zs e h = (flush_step ∷ [], zs, comes_flush ws t w e, refl, refl, omega arith, h)

module _ {D : Type 0} (does : D → Exchange → D → Type 0) (meaning : D → State) (formed : (x : D) → Formed (meaning x)) (agrees : (x : D) (e : Exchange) (y : D) → does x e y → Agrees (meaning x) e (meaning y))
    (w : Width) (d e : D) (buffer end : List ℕ) (q : Tally) (r : Verdict) (lit : (meaning d).machine.lit ≡ true) (is-width : w ≡ width_of (wide (meaning d).words)) where
  abbrev s : State
  s = meaning d

  abbrev most : ℕ
  most = (meaning d).most

  some_most : 0 < most
  some_most = (formed d).most_some

  keeps : Keep s.words most s
  keeps = record { words = refl; limit = refl; lit = lit; formed = formed d }

  pub read_stepped : (fua : Bool) (b n : ℕ) → b + n ≤ size s → 512 * n ≤ length buffer → Held does (read_asks w fua (piece w most) b n) d buffer none_yet e end q r →
      Stepped s (read_steps fua b n) (read_commands most fua n) (read_finished most fua n) buffer (meaning e) end q r
  unfolding pieces
  read_stepped fua b n within room held =
      let size_is = (formed d).blocks_true in
      let long : length (read_steps fua b n) ≡ flushes fua n + n = length-append (flush_steps fua n) (reads b n) ∙ ap (λ (z : ℕ). z + length (reads b n)) (length_flush fua n) ∙ ap (λ (z : ℕ). flushes fua n + z) (length_reads b n) in
      stepped_by s (flush_groups fua n ++ base most n) (read_steps fua b n) (read_commands most fua n) (read_finished most fua n) buffer (meaning e) end q r
      (λ j low. read_counts most n fua some_most j (omega arith))
      (λ j pos low. read_ends most n fua some_most j pos (omega arith))
      (planned does meaning formed agrees s.words most (flush_beside w fua n ++ pieces (read_ask w) most b n 0) (flush_groups fua n ++ base most n) (read_steps fua b n) 0 (512 * n) d e buffer end none_yet q r
      (plan_flush s.words w most (512 * n) fua n (cut n (read_ask w) most b n 0) (base most n) (reads b n) is-width
      (plan_reads n s.words w most n b 0 (512 * n) is-width some_most (omega arith) (omega arith) (omega arith)))
      room keeps
      (rw (piece_is s w (formed d) is-width) at held))

  pub write_stepped : (force : Force) (b n : ℕ) (xs : List ℕ) → b + n ≤ size s → n ≡ length xs / 512 → (goes_through force ≡ true → through s.words ≡ true) → Held does (write_asks w force (piece w most) b xs) d buffer none_yet e end q r →
      Stepped s (write_steps force b (blocks n xs)) (write_commands most n) none_finished buffer (meaning e) end q r
  unfolding pieces
  write_stepped force b n xs within count can held =
      let size_is = (formed d).blocks_true in
      let t = goes_through force in
      let v = is_flushed force in
      let ys : List Step = writes t b (blocks n xs) ++ flush_steps v n in
      let long : length ys ≡ n + flushes v n = length-append (writes t b (blocks n xs)) (flush_steps v n) ∙ ap (λ (z : ℕ). z + length (flush_steps v n)) (length_writes t b (blocks n xs) ∙ length_blocks n xs) ∙ ap (λ (z : ℕ). n + z) (length_flush v n) in
      let plan : Plan s.words most 0 0 (cut n (write_ask w t xs) most b n 0 ++ flush_beside w v n) (cut_groups n most n 0 (flush_groups v n)) ys =
      plan_writes s.words w t xs most 0 (flush_beside w v n) (flush_groups v n) (flush_steps v n) is-width can some_most (flush_plan v n) n n b 0 (omega arith) (omega arith) (omega arith) in
      subst (λ (z : ℕ). Stepped s (writes t b (blocks n xs) ++ flush_steps v z) (write_commands most n) none_finished buffer (meaning e) end q r) (sym (length_blocks n xs))
      (stepped_by s (cut_groups n most n 0 (flush_groups v n)) ys (write_commands most n) none_finished buffer (meaning e) end q r
      (λ j low. write_counts most n v some_most j (omega arith))
      (λ j pos low. finished_bare (cut_groups n most n 0 (flush_groups v n)) (bare_cut n most n (flush_groups v n) (flush_bare v n)) j)
      (planned does meaning formed agrees s.words most (cut n (write_ask w t xs) most b n 0 ++ flush_beside w v n) (cut_groups n most n 0 (flush_groups v n)) ys 0 0 d e buffer end none_yet q r plan (omega arith) keeps
      (rw (piece_is s w (formed d) is-width, sym count) at held)))
    where
      flush_plan : (v : Bool) (n : ℕ) → Plan s.words most 0 0 (flush_beside w v n) (flush_groups v n) (flush_steps v n)
      flush_plan false n = (refl, omega arith)
      flush_plan true zero = (refl, omega arith)
      flush_plan true (suc n) = (flush_step ∷ [], [], comes_flush s.words most w is-width, refl, refl, omega arith, (refl, omega arith))

  pub idle_stepped : Held does (plain_ask (task CheckPowerMode 0 0) ∷ []) d buffer none_yet e end q r → Stepped s (idle_step ∷ []) (commands_by most 1 0) none_finished buffer (meaning e) end q r
  idle_stepped held =
      stepped_by s (group 1 0 ∷ []) (idle_step ∷ []) (commands_by most 1 0) none_finished buffer (meaning e) end q r
      counts
      (λ j pos low. finished_bare (group 1 0 ∷ []) (refl, tt) j)
      (planned does meaning formed agrees s.words most (plain_ask (task CheckPowerMode 0 0) ∷ []) (group 1 0 ∷ []) (idle_step ∷ []) 0 0 d e buffer end none_yet q r
      (idle_step ∷ [], [], comes_idle s.words most, refl, refl, omega arith, (refl, omega arith)) (omega arith) keeps held)
    where
      counts : (j : ℕ) → j ≤ 1 → commands_of (group 1 0 ∷ []) j ≡ commands_by most 1 0 j
      counts zero low = commands_nothing (group 1 0) [] ∙ sym (let z = pieces_zero most some_most in omega arith)
      counts (suc zero) low = commands_first (group 1 0) [] 1 (omega arith) (omega arith) ∙ sym (let z = pieces_zero most some_most in omega arith)
      counts (suc (suc j)) low = absurd (omega arith)
