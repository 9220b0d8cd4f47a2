-- A conversation whose commands are steps is those steps, one after another.
use Rattle.std.proofs.Common.{◌≡◌, ℕ, suc, ◌+◌, ◌<◌, ◌≤◌, min, true, false, List, [], ◌∷◌, ◌++◌, length, take, drop, Some, None, Ok, sym, refl, ap, ◌∙◌, subst, arith, Err}
use Rattle.std.proofs.lemmas.List.{length-append, length-take, length-drop}
use Rattle.ata.specs.Machine.{End}
use Rattle.ata.specs.declared.answer.Stop.TheVariants.{Unreadable, Cut}
use Rattle.ata.specs.Machine.{Machine, Step, Oracle, Outcome, steps, ends, next, begun}
use Rattle.ata.specs.Commands.{State, Gave, Formed, with_machine, ordered, answered, ran, perform, gives}
use Rattle.ata.specs.Exchange.{Exchange, Agrees}
use Rattle.ata.proofs.Joins.{joined, steps_join, begun_join, begun_then, begun_few, begun_all, begun_some}
use Rattle.ata.proofs.Lit.{lit_kept}
use Rattle.sense.specs.declared.case.Sense.TheVariants.{NoAnswer, Unreadable}
use Rattle.transfer.specs.declared.counts.Tally.{Tally}
use Rattle.transfer.specs.Talk.{Verdict, judged, failed, Ask, part, made, laid, counted, Held}
use Rattle.transfer.specs.Steps.{told_by, bytes_by, after_commands}
use Rattle.transfer.proofs.Talks.{First, held_nil, held_first}
use Rattle.transfer.proofs.Buffer.{put, put_none, put_put, put_length, put_mid}
use Rattle.transfer.proofs.Groups.{Group, commands_of, finished_of, commands_none, commands_first, finished_first, commands_past, finished_past}

-- What every command of a conversation finds: power, and what was true of the drive at its start.
pub record Keep (ws : List ℕ) (most : ℕ) (s : State) : Type 0 where
  pub words : s.words ≡ ws
  pub limit : s.most ≡ most
  pub lit : s.machine.lit ≡ true
  pub formed : Formed s

abbrev pub run : Oracle → List Step → State → Outcome
run o xs s = steps o xs s.machine

-- Wherever that holds, the ask runs as these steps.
pub record Comes (ws : List ℕ) (most : ℕ) (k : Ask) (g : Group) (xs : List Step) : Type 0 where
  pub first : Step
  pub others : List Step
  pub some : xs ≡ first ∷ others
  pub long : length xs ≡ g.steps
  pub bytes : k.len ≡ g.bytes
  pub runs : (o : Oracle) (s : State) (room : List ℕ) → Keep ws most s → length room ≡ k.len → perform o s k.task (k.carry room) ≡ ran s room (run o xs s)
  pub few : (o : Oracle) (s : State) → Keep ws most s → length (run o xs s).given ≤ k.len
  pub all : (o : Oracle) (s : State) → Keep ws most s → (run o xs s).end ≡ Ok tt → length (run o xs s).given ≡ k.len
  pub gains_all : k.gains (Ok tt) ≡ k.len
  pub gains_some : (o : Oracle) (s : State) (x : ℕ) → Keep ws most s → (run o xs s).end ≡ Err (Unreadable x) → k.gains (failed Unreadable (Some x)) ≡ length (run o xs s).given
  pub gains_none : k.gains (failed NoAnswer None) ≡ 0

-- The asks are the steps, and their parts of the buffer follow one another from `at` on, up to `to`.
abbrev pub Plan : List ℕ → ℕ → ℕ → ℕ → List Ask → List Group → List Step → Type 0
Plan ws most at to [] [] ys = (ys ≡ []) × (at ≤ to)
Plan ws most at to [] (g ∷ gs) ys = ⊥
Plan ws most at to (k ∷ ks) [] ys = ⊥
Plan ws most at to (k ∷ ks) (g ∷ gs) ys =
    (xs : List Step) × (zs : List Step) × Comes ws most k g xs × (ys ≡ xs ++ zs) × (k.at ≡ at) × (at + k.len ≤ to) × Plan ws most (at + k.len) to ks gs zs

-- What comes of asks by steps ys, from a tally p and the place `at` in the buffer on.
pub record Stepping (s : State) (gs : List Group) (ys : List Step) (at : ℕ) (buffer : List ℕ) (p : Tally) (t : State) (end : List ℕ) (q : Tally) (r : Verdict) : Type 0 where
  pub choices : Oracle
  pub state : t ≡ after_commands s (commands_of gs (begun choices ys s.machine)) (run choices ys s).machine
  pub data_in : end ≡ put at (run choices ys s).given buffer
  pub verdict : r ≡ told_by (run choices ys s).end
  pub commands : q.commands ≡ p.commands + commands_of gs (begun choices ys s.machine)
  pub bytes : q.bytes ≡ p.bytes + bytes_by (run choices ys s).end (length (run choices ys s).given) (finished_of gs (begun choices ys s.machine))

done_cut : {X : Type 0} → ◌≡◌ {A = End} (Ok tt) (Err Cut) → X
done_cut e = let z : ◌≡◌ {A = ℕ} 0 1 = cc in absurd (omega arith)

-- steps that lost their power began with one
pub cut_begun : (zs : List Step) (o : Oracle) (m : Machine) → (steps o zs m).end ≡ Err Cut → 0 < begun o zs m
cut_begun [] o m e = done_cut e
cut_begun (z ∷ zs) o m e = begun_some z zs o m

bytes_turn : (z : End) (a b c len whole rest f f' : ℕ) → a ≡ b + bytes_by z rest f → b ≡ c + len → whole ≡ len + rest → (z ≡ Err Cut → f' ≡ len + f) → a ≡ c + bytes_by z whole f'
bytes_turn (Ok tt) a b c len whole rest f f' h i j k = omega arith
bytes_turn (Err (Unreadable x)) a b c len whole rest f f' h i j k = omega arith
bytes_turn (Err Cut) a b c len whole rest f f' h i j k = let l = k refl in omega arith

-- the same by an outcome and a number of steps that are known
module _ (s : State) (gs : List Group) (ys : List Step) (at : ℕ) (buffer : List ℕ) (p : Tally) (t : State) (end : List ℕ) (q : Tally) (r : Verdict) where
  by_run : (o : Oracle) (x : Outcome) (j : ℕ) → run o ys s ≡ x → begun o ys s.machine ≡ j →
      t ≡ after_commands s (commands_of gs j) x.machine → end ≡ put at x.given buffer → r ≡ told_by x.end →
      q.commands ≡ p.commands + commands_of gs j → q.bytes ≡ p.bytes + bytes_by x.end (length x.given) (finished_of gs j) →
      Stepping s gs ys at buffer p t end q r
  by_run o x j e f st da ve co by =
      record {
        choices = o;
        state = rw (e, f) st;
        data_in = rw e da;
        verdict = rw e ve;
        commands = rw f co;
        bytes = rw (e, f) by;
      }

  module _ (g : Group) (hs : List Group) (groups : gs ≡ g ∷ hs) (xs zs : List Step) (cut : ys ≡ xs ++ zs) (long : length xs ≡ g.steps) (o : Oracle) where
    split : (w : Oracle) → run w ys s ≡ run w (xs ++ zs) s
    split w = ap (λ (z : List Step). run w z s) cut

    split_begun : (w : Oracle) → begun w ys s.machine ≡ begun w (xs ++ zs) s.machine
    split_begun w = ap (λ (z : List Step). begun w z s.machine) cut

    abbrev out : Outcome
    out = run o xs s

    -- the first command's steps were done, and the rest goes on from there
    pub then_more : (len : ℕ) (p' : Tally) → 0 < g.steps → len ≡ g.bytes → out.end ≡ Ok tt → length out.given ≡ len → at + len ≤ length buffer →
        p'.commands ≡ p.commands + 1 → p'.bytes ≡ p.bytes + len →
        (more : Stepping (with_machine (ordered s) out.machine) hs zs (at + len) (put at out.given buffer) p' t end q r) → Stepping s gs ys at buffer p t end q r
    then_more len p' some size e l room co by more =
        let w : Oracle = joined (length xs) o more.choices in
        let rest : Outcome = steps more.choices zs out.machine in
        let j : ℕ = begun more.choices zs out.machine in
        let whole : run w ys s ≡ ends rest.end (out.given ++ rest.given) rest.machine =
        split w ∙ steps_join xs zs o more.choices s.machine ∙ ap (λ (z : End). next_by z out.given out.machine more.choices) e in
        let counts : begun w ys s.machine ≡ g.steps + j =
        split_begun w ∙ begun_join xs zs o more.choices s.machine ∙ ap (λ (z : End). begun_then z (begun o xs s.machine) j) e ∙ ap (λ (n : ℕ). n + j) (begun_all xs o s.machine e ∙ long) in
        let cs : commands_of gs (g.steps + j) ≡ suc (commands_of hs j) = ap (λ (z : List Group). commands_of z (g.steps + j)) groups ∙ commands_past g hs j (g.steps + j) some refl in
        let k : at + length out.given ≤ length buffer = omega arith in
        by_run w (ends rest.end (out.given ++ rest.given) rest.machine) (g.steps + j) whole counts
        (more.state ∙ ap (λ (n : ℕ). record { words = s.words; most = s.most; orders = n; machine = rest.machine }) (orders_on s.orders (commands_of hs j)) ∙ ap (λ (n : ℕ). after_commands s n rest.machine) (sym cs))
        (more.data_in ∙ ap (λ (z : ℕ). put (at + z) rest.given (put at out.given buffer)) (sym l) ∙ put_put at out.given rest.given buffer k)
        more.verdict
        (more.commands ∙ (let h1 = more.commands in omega (arith, cs)))
        (bytes_turn rest.end q.bytes p'.bytes p.bytes len (length (out.given ++ rest.given)) (length rest.given) (finished_of hs j) (finished_of gs (g.steps + j))
        more.bytes by (length-append out.given rest.given ∙ ap (λ (n : ℕ). n + length rest.given) l)
        (λ f. ap (λ (z : List Group). finished_of z (g.steps + j)) groups ∙ finished_past g hs j (g.steps + j) (cut_begun zs more.choices out.machine f) refl ∙ ap (λ (n : ℕ). n + finished_of hs j) (sym size)))
      where
        next_by : End → List ℕ → Machine → Oracle → Outcome
        next_by e g m c = next e g m (λ n. steps c zs n)

        orders_on : (a b : ℕ) → min (min (a + 1) 18446744073709551615 + b) 18446744073709551615 ≡ min (a + suc b) 18446744073709551615
        orders_on a b = omega arith

    -- the first command's steps were not all done, and nothing else was sent
    pub then_stop : (f : Step) (others : List Step) → xs ≡ f ∷ others → (out.end ≡ Ok tt → ⊥) →
        t ≡ with_machine (ordered s) out.machine → end ≡ put at out.given buffer → r ≡ told_by out.end →
        q.commands ≡ p.commands + 1 → q.bytes ≡ p.bytes + bytes_by out.end (length out.given) 0 →
        Stepping s gs ys at buffer p t end q r
    then_stop f others some not_done st da ve co by =
        let w : Oracle = joined (length xs) o o in
        let j : ℕ = begun o xs s.machine in
        let whole : run w ys s ≡ out = split w ∙ steps_join xs zs o o s.machine ∙ stays out.end out.given out.machine refl not_done in
        let counts : begun w ys s.machine ≡ j = split_begun w ∙ begun_join xs zs o o s.machine ∙ begun_stays out.end j (begun o zs out.machine) not_done in
        let pos : 0 < j = rw some (begun_some f others o s.machine) in
        let low : j ≤ g.steps = (let b = begun_few xs o s.machine in omega arith) in
        let cs : commands_of gs j ≡ 1 = ap (λ (z : List Group). commands_of z j) groups ∙ commands_first g hs j pos low in
        let fs : finished_of gs j ≡ 0 = ap (λ (z : List Group). finished_of z j) groups ∙ finished_first g hs j low in
        by_run w out j whole counts
        (st ∙ ap (λ (n : ℕ). after_commands s n out.machine) (sym cs))
        da ve
        (co ∙ ap (λ (n : ℕ). p.commands + n) (sym cs))
        (by ∙ ap (λ (n : ℕ). p.bytes + bytes_by out.end (length out.given) n) (sym fs))
      where
        stays : (e : End) (h : List ℕ) (m : Machine) → out.end ≡ e → (e ≡ Ok tt → ⊥) → next e h m (λ n. steps o zs n) ≡ ends e h m
        stays (Ok tt) h m f no-done = absurd (no-done refl)
        stays (Err (Unreadable x)) h m f no-done = refl
        stays (Err Cut) h m f no-done = refl

        begun_stays : (e : End) (k n : ℕ) → (e ≡ Ok tt → ⊥) → begun_then e k n ≡ k
        begun_stays (Ok tt) k n no-done = absurd (no-done refl)
        begun_stays (Err (Unreadable x)) k n no-done = refl
        begun_stays (Err Cut) k n no-done = refl

stop_done : {x : ℕ} → ◌≡◌ {A = End} (Err (Unreadable x)) (Ok tt) → ⊥
stop_done e = let z : ◌≡◌ {A = ℕ} 0 1 = cc in omega arith

cut_done : ◌≡◌ {A = End} (Err Cut) (Ok tt) → ⊥
cut_done e = let z : ◌≡◌ {A = ℕ} 0 1 = cc in omega arith

module _ {D : Type 0} (does : D → Exchange → D → Type 0) (meaning : D → State) (formed : (x : D) → Formed (meaning x)) (agrees : (x : D) (e : Exchange) (y : D) → does x e y → Agrees (meaning x) e (meaning y)) (ws : List ℕ) (most : ℕ) where
  module _ (k : Ask) (ks : List Ask) (g : Group) (gs : List Group) (xs ys zs : List Step) (d e : D) (buffer end : List ℕ) (p q : Tally) (r : Verdict) (comes : Comes ws most k g xs) (cut : ys ≡ xs ++ zs) (keep : Keep ws most (meaning d)) (room : k.at + k.len ≤ length buffer) (h : First does k ks d buffer p e end q r) where
    abbrev s : State
    s = meaning d

    abbrev o : Oracle
    o = (agrees d (made k buffer h.back h.answer) h.mid h.done).0

    abbrev result : Outcome
    result = run o xs s

    ran_so : gives h.answer (meaning h.mid) h.back ≡ ran s (part k buffer) result
    ran_so =
        let l : length (part k buffer) ≡ k.len = simp (length-take, length-drop) (omega arith) in
        (agrees d (made k buffer h.back h.answer) h.mid h.done).1 ∙ comes.runs o s (part k buffer) keep l

    says : h.answer ≡ answered result.end
    says = ap (λ (z : Gave). z.answer) ran_so

    becomes : meaning h.mid ≡ with_machine (ordered s) result.machine
    becomes = ap (λ (z : Gave). z.state) ran_so

    lies : laid k h.back buffer ≡ put k.at result.given buffer
    lies =
        ap (λ (z : List ℕ). take k.at buffer ++ (z ++ drop k.len (drop k.at buffer))) (ap (λ (z : Gave). z.buffer) ran_so)
        ∙ put_mid k.at k.len buffer result.given room (comes.few o s keep)

    judged_so : (x : End) → result.end ≡ x → judged h.answer ≡ told_by x
    judged_so x f = ap judged (says ∙ ap answered f) ∙ tells x
      where
        tells : (x : End) → judged (answered x) ≡ told_by x
        tells (Ok tt) = refl
        tells (Err (Unreadable b)) = refl
        tells (Err Cut) = refl

    counted_bytes : (v : Verdict) (n : ℕ) → judged h.answer ≡ v → k.gains v ≡ n → (counted k h.answer p).bytes ≡ p.bytes + n
    counted_bytes v n j w = ap (λ (z : Verdict). p.bytes + k.gains z) j ∙ ap (λ (z : ℕ). p.bytes + z) w

    pub turn : (Keep ws most (meaning h.mid) → length (laid k h.back buffer) ≡ length buffer → Held does ks h.mid (laid k h.back buffer) (counted k h.answer p) e end q r →
        Stepping (meaning h.mid) gs zs (k.at + k.len) (laid k h.back buffer) (counted k h.answer p) (meaning e) end q r) →
        Stepping s (g ∷ gs) ys k.at buffer p (meaning e) end q r
    turn more = by result.end refl
      where
        some_steps : 0 < g.steps
        some_steps = (let l = comes.long in let i : length xs ≡ suc (length comes.others) = ap length comes.some in omega arith)

        by : (x : End) → result.end ≡ x → Stepping s (g ∷ gs) ys k.at buffer p (meaning e) end q r
        by (Ok tt) x =
            let j : judged h.answer ≡ Ok tt = judged_so (Ok tt) x in
            let a : length result.given ≡ k.len = comes.all o s keep x in
            let u : k.at + length result.given ≤ length buffer = omega arith in
            let keep' : Keep ws most (meaning h.mid) = record {
              words = ap (λ (z : State). z.words) becomes ∙ keep.words;
              limit = ap (λ (z : State). z.most) becomes ∙ keep.limit;
              lit = ap (λ (z : State). z.machine.lit) becomes ∙ lit_kept o xs s.machine x ∙ keep.lit;
              formed = formed h.mid;
            } in
            let z = more keep' (ap length lies ∙ put_length k.at result.given buffer u) (h.well tt j) in
            then_more s (g ∷ gs) ys k.at buffer p (meaning e) end q r g gs refl xs zs cut comes.long o k.len (counted k h.answer p) some_steps comes.bytes x a room refl (counted_bytes (Ok tt) k.len j comes.gains_all)
            (subst (λ (m : State). Stepping m gs zs (k.at + k.len) (put k.at result.given buffer) (counted k h.answer p) (meaning e) end q r) becomes
            (subst (λ (m : List ℕ). Stepping (meaning h.mid) gs zs (k.at + k.len) m (counted k h.answer p) (meaning e) end q r) lies z))
        by (Err (Unreadable b)) x =
            let j : judged h.answer ≡ failed Unreadable (Some b) = judged_so (Err (Unreadable b)) x in
            let w = h.badly _ j in
            then_stop s (g ∷ gs) ys k.at buffer p (meaning e) end q r g gs refl xs zs cut comes.long o comes.first comes.others comes.some (λ f. stop_done (sym x ∙ f))
            (ap meaning (sym w.0) ∙ becomes) (w.1 ∙ lies) (w.3 ∙ ap told_by (sym x))
            (ap (λ (z : Tally). z.commands) w.2)
            (ap (λ (z : Tally). z.bytes) w.2 ∙ counted_bytes (failed Unreadable (Some b)) (length result.given) j (comes.gains_some o s b keep x) ∙ ap (λ (z : End). p.bytes + bytes_by z (length result.given) 0) (sym x))
        by (Err Cut) x =
            let j : judged h.answer ≡ failed NoAnswer None = judged_so (Err Cut) x in
            let w = h.badly _ j in
            then_stop s (g ∷ gs) ys k.at buffer p (meaning e) end q r g gs refl xs zs cut comes.long o comes.first comes.others comes.some (λ f. cut_done (sym x ∙ f))
            (ap meaning (sym w.0) ∙ becomes) (w.1 ∙ lies) (w.3 ∙ ap told_by (sym x))
            (ap (λ (z : Tally). z.commands) w.2)
            (ap (λ (z : Tally). z.bytes) w.2 ∙ counted_bytes (failed NoAnswer None) 0 j comes.gains_none ∙ ap (λ (z : End). p.bytes + bytes_by z (length result.given) 0) (sym x))

  pub planned : (ks : List Ask) (gs : List Group) (ys : List Step) (at to : ℕ) (d e : D) (buffer end : List ℕ) (p q : Tally) (r : Verdict) → Plan ws most at to ks gs ys → to ≤ length buffer → Keep ws most (meaning d) →
      Held does ks d buffer p e end q r → Stepping (meaning d) gs ys at buffer p (meaning e) end q r
  planned [] [] ys at to d e buffer end p q r plan room keep h =
      let w = held_nil does d e buffer end p q r h in
      let top = keep.formed.orders_top in
      let n : min ((meaning d).orders + 0) 18446744073709551615 ≡ (meaning d).orders = omega arith in
      subst (λ (z : List Step). Stepping (meaning d) [] z at buffer p (meaning e) end q r) (sym plan.0)
      record {
        choices = λ _. record { settles = λ _. false };
        state = ap meaning (sym w.0) ∙ ap (λ (z : ℕ). record { words = (meaning d).words; most = (meaning d).most; orders = z; machine = (meaning d).machine }) (sym (ap (λ (c : ℕ). min ((meaning d).orders + c) 18446744073709551615) (commands_none 0) ∙ n));
        data_in = w.1 ∙ sym (put_none at buffer);
        verdict = w.3;
        commands = ap (λ (z : Tally). z.commands) w.2 ∙ (let c = commands_none 0 in omega arith);
        bytes = ap (λ (z : Tally). z.bytes) w.2 ∙ omega arith;
      }
  planned [] (g ∷ gs) ys at to d e buffer end p q r plan room keep h = absurd plan
  planned (k ∷ ks) [] ys at to d e buffer end p q r plan room keep h = absurd plan
  planned (k ∷ ks) (g ∷ gs) ys at to d e buffer end p q r plan room keep h =
      let x = held_first does k ks d e buffer end p q r h in
      let w = plan.5 in
      let i : k.at ≡ at = plan.4 in
      subst (λ (z : ℕ). Stepping (meaning d) (g ∷ gs) ys z buffer p (meaning e) end q r) i
      (turn k ks g gs plan.0 ys plan.1 d e buffer end p q r plan.2 plan.3 keep (omega arith) x
      (λ keep' same h'.
      let j : to ≤ length (laid k x.back buffer) = omega arith in
      subst (λ (z : ℕ). Stepping (meaning x.mid) gs plan.1 (z + k.len) (laid k x.back buffer) (counted k x.answer p) (meaning e) end q r) (sym i)
      (planned ks gs plan.1 (at + k.len) to x.mid e (laid k x.back buffer) end (counted k x.answer p) q r plan.6 j keep' h')))
