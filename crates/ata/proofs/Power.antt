-- Steps show what the faces alone decide, or lose their power; the drive's choices do not show.
use Rattle.std.proofs.Common.{◌≡◌, ℕ, zero, suc, false, ◌⊎◌, List, [], ◌∷◌, ◌++◌, Some, None, Option, refl, ap, ◌∙◌, subst, inl, inr, ⊎_elim, arith, Ok, Err}
use Rattle.ata.specs.Machine.{End}
use Rattle.ata.specs.declared.answer.Stop.TheVariants.{Unreadable, Cut}
use Rattle.ata.specs.Machine.{Machine, Step, Choice, Oracle, Outcome, Look, look, scored, settled, powered, step, next, steps, ends}
use Rattle.ata.specs.Shows.{next_look, looks}

apart : {A : Type 0} {x : A} (o : Option A) → o ≡ Some x → o ≡ None → ⊥
apart o p q = let z : ◌≡◌ {A = ℕ} 0 1 = cc in omega arith

abbrev pub seen : Outcome → Look
seen r = record { end = r.end; given = r.given; face = r.machine.store.face }

pub record Live (m : Machine) (l : Look) (r : Outcome) : Type 0 where
  pub looked : seen r ≡ l
  pub lit : r.machine.lit ≡ m.lit
  pub left : m.left ≡ None → r.machine.left ≡ None
  pub errors : r.machine.errors ≡ scored r.end m.errors

pub record Dead (m : Machine) (r : Outcome) : Type 0 where
  pub end : r.end ≡ Err Cut
  pub lit : r.machine.lit ≡ false
  pub level : r.machine.store.medium ≡ r.machine.store.face
  pub left : m.left ≡ None → ⊥
  pub errors : r.machine.errors ≡ m.errors

step_went : (s : Choice) (x : Step) (m : Machine) → Live m (look x m.store.face) (step s x m) ⊎ Dead m (step s x m)
step_went s x m = by m.left refl
  where
    by : (l : Option ℕ) → m.left ≡ l → Live m (look x m.store.face) (powered l x (settled s m)) ⊎ Dead m (powered l x (settled s m))
    by None e = inl (record { looked = refl; lit = refl; left = λ _. refl; errors = refl })
    by (Some zero) e = inr (record { end = refl; lit = refl; level = refl; left = apart m.left e; errors = refl })
    by (Some (suc n)) e = inl (record { looked = refl; lit = refl; left = λ h. absurd (apart m.left e h); errors = refl })

pub went : (o : Oracle) (xs : List Step) (m : Machine) → Live m (looks xs m.store.face) (steps o xs m) ⊎ Dead m (steps o xs m)
went o [] m = inl (record { looked = refl; lit = refl; left = λ h. h; errors = refl })
went o (x ∷ xs) m = ⊎_elim (alive (λ n. went (λ k. o (suc k)) xs n)) dies (step_went (o 0) x m)
  where
    Went : Look → Outcome → Type 0
    Went l r = Live m l r ⊎ Dead m r

    rest : Machine → Outcome
    rest n = steps (λ k. o (suc k)) xs n

    later : (g : List ℕ) (n : Machine) (l : Look) → Live m l (ends (Ok tt) g n) → Live n (looks xs n.store.face) (rest n) ⊎ Dead n (rest n) → Went (next_look (Ok tt) g n.store.face (λ h. looks xs h)) (next (Ok tt) g n rest)
    later g n l a (inl b) = inl (record { looked = ap (λ (k : Look). record { end = k.end; given = g ++ k.given; face = k.face }) b.looked; lit = b.lit ∙ a.lit; left = λ h. b.left (a.left h); errors = b.errors ∙ ap (λ e. scored (rest n).end e) a.errors })
    later g n l a (inr b) = inr (record { end = b.end; lit = b.lit; level = b.level; left = λ h. b.left (a.left h); errors = b.errors ∙ a.errors })

    Rest : Type 0
    Rest = (n : Machine) → Live n (looks xs n.store.face) (rest n) ⊎ Dead n (rest n)

    by : Rest → (e : End) (g : List ℕ) (n : Machine) → Live m (record { end = e; given = g; face = n.store.face }) (ends e g n) → Went (next_look e g n.store.face (λ h. looks xs h)) (next e g n rest)
    by ih (Ok tt) g n l = later g n _ l (ih n)
    by ih (Err (Unreadable b)) g n l = inl l
    by ih (Err Cut) g n l = inl l

    alive : Rest → Live m (look x m.store.face) (step (o 0) x m) → Went (looks (x ∷ xs) m.store.face) (steps o (x ∷ xs) m)
    alive ih l =
        let r : Outcome = step (o 0) x m in
        subst (λ (k : Look). Went (next_look k.end k.given k.face (λ h. looks xs h)) (steps o (x ∷ xs) m)) l.looked
        (by ih r.end r.given r.machine (record { looked = refl; lit = l.lit; left = l.left; errors = l.errors }))

    gone : (e : End) (g : List ℕ) (n : Machine) → e ≡ Err Cut → Dead m (ends e g n) → Went (looks (x ∷ xs) m.store.face) (next e g n rest)
    gone (Ok tt) g n e d = absurd (let z : ◌≡◌ {A = ℕ} 0 1 = cc in omega arith)
    gone (Err (Unreadable b)) g n e d = inr d
    gone (Err Cut) g n e d = inr d

    dies : Dead m (step (o 0) x m) → Went (looks (x ∷ xs) m.store.face) (steps o (x ∷ xs) m)
    dies d = gone (step (o 0) x m).end (step (o 0) x m).given (step (o 0) x m).machine d.end d
