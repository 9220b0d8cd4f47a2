-- READ, WRITE and TEST UNIT READY to a drive that is as the unit remembers it.
use Rattle.std.proofs.Common.{◌≡◌, ℕ, ◌+◌, ◌*◌, ◌/◌, ◌≤◌, Bool, true, false, List, ◌++◌, length, take, drop, Ok, Result, sym, refl, ◌∙◌, subst, arith}
use Rattle.std.proofs.lemmas.List.{length-take-le}
use Rattle.ata.specs.Commands.{State, Formed, size, blocks}
use Rattle.ata.specs.Exchange.{Exchange, Agrees}
use Rattle.ata.specs.Shows.{looks}
use Rattle.ata.proofs.Ranges.{length_blocks}
use Rattle.sense.specs.declared.refusal.Refusal.{Refusal}
use Rattle.cdb.specs.declared.command.Extent.{Extent}
use Rattle.transfer.specs.declared.counts.Tally.{Tally}
use Rattle.transfer.specs.declared.faults.Fault.{Fault}
use Rattle.transfer.specs.Tasks.{piece}
use Rattle.transfer.specs.Talk.{Verdict, Ask, Held, none_yet}
use Rattle.transfer.specs.Asks.{read_asks, write_asks, goes_through}
use Rattle.transfer.specs.Steps.{Work, read_work, write_work, idle_work, write_steps, write_commands, none_finished, Stepped}
use Rattle.transfer.proofs.Stepped.{read_stepped, write_stepped, idle_stepped}
use Rattle.unit.specs.declared.known.Facts.{Facts}
use Rattle.unit.specs.declared.replies.Reply.{Reply}
use Rattle.unit.specs.Replies.{replied}
use Rattle.unit.specs.Fitness.{InRange}
use Rattle.unit.specs.Courses.{asks, power_check, force_by}
use Rattle.unit.specs.Attached.{Knows}
use Rattle.unit.specs.Works.{Works}
use Rattle.unit.proofs.Ranges.{whole_blocks}
use Rattle.unit.proofs.Working.{Starts, shown_by, read_looks, write_looks, dark_by, read_starts, write_starts}

-- a write that goes through the cache is one that the drive claims
through_claimed : (fua can : Bool) → goes_through (force_by fua can) ≡ true → can ≡ true
through_claimed false can e = absurd (let z : ◌≡◌ {A = ℕ} 0 1 = cc in omega arith)
through_claimed true true e = refl
through_claimed true false e = e

module _ {D : Type 0} (does : D → Exchange → D → Type 0) (meaning : D → State) (formed : (x : D) → Formed (meaning x)) (agrees : (x : D) (e : Exchange) (y : D) → does x e y → Agrees (meaning x) e (meaning y))
    (f : Facts) (d e : D) (b end : List ℕ) (q : Tally) (v : Verdict) (b' : List ℕ) (r : Result (Reply Fault) Refusal) (knows : Knows f (meaning d)) (is-r : r ≡ Ok (replied v q)) where
  -- asks that are steps to a drive with power are work, also to a drive without
  worked : (n : ℕ) (ks : List Ask) (w : Work) → looks w.steps (meaning d).machine.store.face ≡ w.shows (meaning d).machine.store.face → Starts ks w.steps → b' ≡ end ++ drop n b →
      Held does ks d (take n b) none_yet e end q v → ((meaning d).machine.lit ≡ true → Stepped (meaning d) w.steps w.commands w.finished (take n b) (meaning e) end q v) →
      Works (asks n ks w) (meaning d) b (meaning e) b' r
  worked n ks w look starts is_b held stepped = (
    λ lit.
        record {
          tally = q;
          verdict = v;
          end = end;
          stepped = stepped lit;
          shown = shown_by w (meaning d) (take n b) (meaning e) end q v lit look (stepped lit);
          data_in = is_b;
          reply = is-r;
        },
    λ dark. dark_by does meaning agrees ks w d e n b end q v b' r starts dark held is_b is-r,
  )

  pub read_worked : (fua : Bool) (x : Extent) (start : ℕ) → InRange f x start → 512 * x.count ≤ length b → b' ≡ end ++ drop (512 * x.count) b →
      Held does (read_asks f.width fua (piece f.width (meaning d).most) x.block x.count) d (take (512 * x.count) b) none_yet e end q v →
      Works (asks (512 * x.count) (read_asks f.width fua (piece f.width (meaning d).most) x.block x.count) (read_work (meaning d).most fua x.block x.count)) (meaning d) b (meaning e) b' r
  read_worked fua x start within room is_b held =
      let n = 512 * x.count in
      let k = knows.blocks in
      let i = within.last in
      let fits : x.block + x.count ≤ size (meaning d) = omega arith in
      let long : length (take n b) ≡ n = length-take-le n b room in
      worked n _ _ (read_looks fua x.block x.count (meaning d).machine.store.face fits) (read_starts f.width fua (piece f.width (meaning d).most) x.block x.count) is_b held
      (λ lit. read_stepped does meaning formed agrees f.width d e (take n b) end q v lit knows.width fua x.block x.count fits (omega arith) held)

  pub write_worked : (fua : Bool) (x : Extent) (start : ℕ) (out : List ℕ) → InRange f x start → 512 * x.count ≤ length out → b' ≡ end ++ drop 0 b →
      Held does (write_asks f.width (force_by fua f.through) (piece f.width (meaning d).most) x.block (take (512 * x.count) out)) d (take 0 b) none_yet e end q v →
      Works (asks 0 (write_asks f.width (force_by fua f.through) (piece f.width (meaning d).most) x.block (take (512 * x.count) out)) (write_work (meaning d).most (force_by fua f.through) x.block (blocks x.count (take (512 * x.count) out)))) (meaning d) b (meaning e) b' r
  write_worked fua x start out within room is_b held =
      let xs = take (512 * x.count) out in
      let cs = blocks x.count xs in
      let force = force_by fua f.through in
      let k = knows.blocks in
      let i = within.last in
      let count : x.count ≡ length xs / 512 = sym (whole_blocks x.count out room) in
      let long : length cs ≡ x.count = length_blocks x.count xs in
      let fits : x.block + x.count ≤ size (meaning d) = omega arith in
      let fits2 : x.block + length cs ≤ size (meaning d) = omega arith in
      worked 0 _ _ (write_looks force x.block cs (meaning d).machine.store.face fits2) (write_starts f.width force (piece f.width (meaning d).most) x.block x.count xs count) is_b held
      (λ lit.
      subst (λ (m : ℕ). Stepped (meaning d) (write_steps force x.block cs) (write_commands (meaning d).most m) none_finished (take 0 b) (meaning e) end q v) (sym long)
      (write_stepped does meaning formed agrees f.width d e (take 0 b) end q v lit knows.width force x.block x.count xs fits count (λ t. sym knows.through ∙ through_claimed fua f.through t) held))

  pub idle_worked : b' ≡ end ++ drop 0 b → Held does power_check d (take 0 b) none_yet e end q v → Works (asks 0 power_check (idle_work (meaning d).most)) (meaning d) b (meaning e) b' r
  idle_worked is_b held =
      worked 0 power_check (idle_work (meaning d).most) refl (λ _. refl, refl) is_b held
      (λ lit. idle_stepped does meaning formed agrees f.width d e (take 0 b) end q v lit knows.width held)
