-- Steps in groups, one for each command: how many commands j steps make, and how many bytes the finished ones stand for.
use Rattle.std.proofs.Common.{◌≡◌, ℕ, zero, suc, ◌+◌, ◌-◌, ◌*◌, ◌/◌, ◌<◌, ◌≤◌, min, true, false, cond, ltb, ◌⊎◌, List, [], ◌∷◌, sym, refl, ap, ◌∙◌, inl, inr, add_comm, mul-zero, zero-mul, mul-one, mul-add, add-one, arith}
use native.Mathlib.Nat.{add-div_right, div-eq_of_lt}
use Rattle.std.proofs.lemmas.Bool.Decides.{nat_tests, leb_tells}
use Rattle.transfer.specs.Steps.{pieces_of}

pub record Group : Type 0 where
  pub steps : ℕ
  pub bytes : ℕ

abbrev pub group : ℕ → ℕ → Group
group n b = record { steps = n; bytes = b }

unfoldable pub commands_of : List Group → ℕ → ℕ
commands_of [] j = 0
commands_of (g ∷ gs) zero = 0
commands_of (g ∷ gs) (suc j) = suc (commands_of gs (suc j - g.steps))

unfoldable pub finished_of : List Group → ℕ → ℕ
finished_of [] j = 0
finished_of (g ∷ gs) j = cond (ltb g.steps j) (g.bytes + finished_of gs (j - g.steps)) 0

commands_zero : (gs : List Group) → commands_of gs 0 ≡ 0
unfolding commands_of
commands_zero [] = refl
commands_zero (g ∷ gs) = refl

pub commands_none : (j : ℕ) → commands_of [] j ≡ 0
unfolding commands_of
commands_none j = refl

pub commands_nothing : (g : Group) (gs : List Group) → commands_of (g ∷ gs) 0 ≡ 0
unfolding commands_of
commands_nothing g gs = refl

-- within the first group there is one command, and none is finished
pub commands_first : (g : Group) (gs : List Group) (j : ℕ) → 0 < j → j ≤ g.steps → commands_of (g ∷ gs) j ≡ 1
unfolding commands_of
commands_first g gs zero h k = absurd (omega arith)
commands_first g gs (suc j) h k =
    let e : suc j - g.steps ≡ 0 = omega arith in
    ap (λ (i : ℕ). suc (commands_of gs i)) e ∙ ap suc (commands_zero gs)

pub finished_first : (g : Group) (gs : List Group) (j : ℕ) → j ≤ g.steps → finished_of (g ∷ gs) j ≡ 0
unfolding finished_of
finished_first g gs j k = let e : ltb g.steps j ≡ false = grind (arith, nat_tests) in rw e

-- past it there is one more, and its bytes are finished
pub commands_past : (g : Group) (gs : List Group) (j k : ℕ) → 0 < g.steps → k ≡ g.steps + j → commands_of (g ∷ gs) k ≡ suc (commands_of gs j)
unfolding commands_of
commands_past g gs j zero h e = absurd (omega arith)
commands_past g gs j (suc k) h e =
    let i : suc k - g.steps ≡ j = omega arith in
    ap (λ (z : ℕ). suc (commands_of gs z)) i

pub finished_past : (g : Group) (gs : List Group) (j k : ℕ) → 0 < j → k ≡ g.steps + j → finished_of (g ∷ gs) k ≡ g.bytes + finished_of gs j
unfolding finished_of
finished_past g gs j k h e =
    let t : ltb g.steps k ≡ true = grind (arith, nat_tests) in
    let i : k - g.steps ≡ j = omega arith in
    rw (t, i)

-- The groups of n blocks in pieces of t, at c bytes a block, before others.
unfoldable pub cut_groups : ℕ → ℕ → ℕ → ℕ → List Group → List Group
cut_groups zero t n c gs = gs
cut_groups (suc fuel) t zero c gs = gs
cut_groups (suc fuel) t (suc n) c gs = group (min t (suc n)) (c * min t (suc n)) ∷ cut_groups fuel t (suc n - min t (suc n)) c gs

quotient_more : (t j : ℕ) → 0 < t → (j + t) / t ≡ suc (j / t)
quotient_more t j h = add-div_right j h ∙ add-one (j / t)

pub pieces_zero : (t : ℕ) → 0 < t → pieces_of t 0 ≡ 0
pieces_zero t h = let k : 0 + (t - 1) < t = omega arith in div-eq_of_lt k

pieces_one : (t j : ℕ) → 0 < j → j ≤ t → pieces_of t j ≡ 1
pieces_one t j h k =
    let e : j + (t - 1) ≡ (j - 1) + t = omega arith in
    let l : j - 1 < t = omega arith in
    ap (λ (z : ℕ). z / t) e ∙ quotient_more t (j - 1) (omega arith) ∙ ap suc (div-eq_of_lt l)

pieces_past : (t j : ℕ) → 0 < t → pieces_of t (t + j) ≡ suc (pieces_of t j)
pieces_past t j h =
    let e : t + j + (t - 1) ≡ (j + (t - 1)) + t = omega arith in
    ap (λ (z : ℕ). z / t) e ∙ quotient_more t (j + (t - 1)) h

le_or_past : (j p : ℕ) → (j ≤ p) ⊎ (p < j)
le_or_past j p = elim (leb_tells j p) [ inl h ↦ inl h.1 | inr h ↦ inr h.1 ]

module _ (t n c p : ℕ) (rest gs : List Group) (h : 0 < t) (is : p ≡ min t (suc n)) where
  abbrev More : Type 0
  More = (i : ℕ) → commands_of rest i ≡ pieces_of t (min i (suc n - p)) + commands_of gs (i - (suc n - p))

  abbrev Now : ℕ → Type 0
  Now j = commands_of (group p (c * p) ∷ rest) j ≡ pieces_of t (min j (suc n)) + commands_of gs (j - suc n)

  now_none : Now 0
  unfolding commands_of
  now_none =
      let e : min 0 (suc n) ≡ 0 = omega arith in
      let e2 : 0 - suc n ≡ 0 = omega arith in
      let a = pieces_zero t h in
      let b = commands_zero gs in
      rw (e, e2) (omega arith)

  now_within : (j : ℕ) → 0 < j → j ≤ p → Now j
  now_within j k low =
      let e : min j (suc n) ≡ j = omega arith in
      let e2 : j - suc n ≡ 0 = omega arith in
      let a = pieces_one t j k (omega arith) in
      let b = commands_zero gs in
      let d = commands_first (group p (c * p)) rest j k low in
      rw (e, e2) (omega arith)

  now_past : (j : ℕ) → p < j → More → Now j
  now_past j past more = elim (le_or_past t (suc n)) [ inl full ↦ by_full full | inr last ↦ by_last last ]
    where
      d : commands_of (group p (c * p) ∷ rest) j ≡ suc (commands_of rest (j - p))
      d = commands_past (group p (c * p)) rest (j - p) j (omega arith) (omega arith)

      by_full : t ≤ suc n → Now j
      by_full full =
          let i : j - p - (suc n - p) ≡ j - suc n = omega arith in
          let m : min j (suc n) ≡ t + min (j - p) (suc n - p) = omega arith in
          let a = pieces_past t (min (j - p) (suc n - p)) h in
          let b : commands_of gs (j - p - (suc n - p)) ≡ commands_of gs (j - suc n) = ap (commands_of gs) i in
          let w = more (j - p) in
          let z : pieces_of t (min j (suc n)) ≡ pieces_of t (t + min (j - p) (suc n - p)) = ap (pieces_of t) m in
          omega (arith, d, a, b, w, z)

      by_last : suc n < t → Now j
      by_last last =
          let i : j - p - (suc n - p) ≡ j - suc n = omega arith in
          let m : min (j - p) (suc n - p) ≡ 0 = omega arith in
          let m2 : min j (suc n) ≡ suc n = omega arith in
          let a : pieces_of t (min (j - p) (suc n - p)) ≡ 0 = ap (pieces_of t) m ∙ pieces_zero t h in
          let a2 : pieces_of t (min j (suc n)) ≡ 1 = ap (pieces_of t) m2 ∙ pieces_one t (suc n) (omega arith) (omega arith) in
          let b : commands_of gs (j - p - (suc n - p)) ≡ commands_of gs (j - suc n) = ap (commands_of gs) i in
          let w = more (j - p) in
          omega (arith, d, a, a2, b, w)

  now : More → (j : ℕ) → Now j
  now more zero = now_none
  now more (suc j) = elim (le_or_past (suc j) p) [ inl low ↦ now_within (suc j) (omega arith) low | inr past ↦ now_past (suc j) past more ]

-- as many commands as pieces are begun, and those of the groups after them
pub commands_cut : (f t n c : ℕ) (gs : List Group) → 0 < t → n ≤ f → (j : ℕ) → commands_of (cut_groups f t n c gs) j ≡ pieces_of t (min j n) + commands_of gs (j - n)
unfolding cut_groups
commands_cut zero t n c gs h k j =
    let e : min j n ≡ 0 = omega arith in
    let e2 : j - n ≡ j = omega arith in
    let z = pieces_zero t h in
    rw (e, e2) (omega arith)
commands_cut (suc f) t zero c gs h k j =
    let e : min j 0 ≡ 0 = omega arith in
    let e2 : j - 0 ≡ j = omega arith in
    let z = pieces_zero t h in
    rw (e, e2) (omega arith)
commands_cut (suc f) t (suc n) c gs h k j =
    now t n c (min t (suc n)) (cut_groups f t (suc n - min t (suc n)) c gs) gs h refl (commands_cut f t (suc n - min t (suc n)) c gs h (omega arith)) j

-- the bytes of the pieces that were finished before step j
finished_turn : (t n c p j : ℕ) (rest : List Group) → 0 < t → p ≡ min t (suc n) → 0 < j → j ≤ suc n →
    ((i : ℕ) → 0 < i → i ≤ suc n - p → finished_of rest i ≡ c * (t * ((i - 1) / t))) → finished_of (group p (c * p) ∷ rest) j ≡ c * (t * ((j - 1) / t))
finished_turn t n c p j rest h is some low more = elim (le_or_past j p) [ inl within ↦ by_within within | inr past ↦ by_past past ]
  where
    by_within : j ≤ p → finished_of (group p (c * p) ∷ rest) j ≡ c * (t * ((j - 1) / t))
    by_within within =
        let l : j - 1 < t = omega arith in
        let q : (j - 1) / t ≡ 0 = div-eq_of_lt l in
        finished_first (group p (c * p)) rest j within ∙ sym (ap (λ (z : ℕ). c * (t * z)) q ∙ ap (λ (z : ℕ). c * z) (mul-zero t) ∙ mul-zero c)

    by_past : p < j → finished_of (group p (c * p) ∷ rest) j ≡ c * (t * ((j - 1) / t))
    by_past past =
        let e : p ≡ t = omega arith in
        let i : j - 1 ≡ (j - p - 1) + t = omega arith in
        let q : (j - 1) / t ≡ (j - p - 1) / t + 1 = ap (λ (z : ℕ). z / t) i ∙ add-div_right (j - p - 1) h in
        let x : ℕ = (j - p - 1) / t in
        finished_past (group p (c * p)) rest (j - p) j (omega arith) (omega arith)
        ∙ ap (λ (z : ℕ). c * p + z) (more (j - p) (omega arith) (omega arith))
        ∙ ap (λ (z : ℕ). c * z + c * (t * x)) e
        ∙ sym (ap (λ (z : ℕ). c * (t * z)) q ∙ ap (λ (z : ℕ). c * z) (mul-add t x 1) ∙ mul-add c (t * x) (t * 1) ∙ ap (λ (z : ℕ). c * (t * x) + c * z) (mul-one t) ∙ add_comm (c * (t * x)) (c * t))

pub finished_cut : (f t n c : ℕ) → 0 < t → n ≤ f → (j : ℕ) → 0 < j → j ≤ n → finished_of (cut_groups f t n c []) j ≡ c * (t * ((j - 1) / t))
unfolding cut_groups
finished_cut zero t n c h k j some low = absurd (omega arith)
finished_cut (suc f) t zero c h k j some low = absurd (omega arith)
finished_cut (suc f) t (suc n) c h k j some low =
    finished_turn t n c (min t (suc n)) j (cut_groups f t (suc n - min t (suc n)) c []) h refl some low (finished_cut f t (suc n - min t (suc n)) c h (omega arith))

-- groups without bytes
abbrev pub Bare : List Group → Type 0
Bare [] = Unit {0}
Bare (g ∷ gs) = (g.bytes ≡ 0) × Bare gs

pub finished_bare : (gs : List Group) → Bare gs → (j : ℕ) → finished_of gs j ≡ 0
unfolding finished_of
finished_bare [] b j = refl
finished_bare (g ∷ gs) b j =
    let e : g.bytes + finished_of gs (j - g.steps) ≡ 0 = (let x = b.0 in let y = finished_bare gs b.1 (j - g.steps) in omega arith) in
    elim (ltb g.steps j) as (λ v. cond v (g.bytes + finished_of gs (j - g.steps)) 0 ≡ 0) [ true ↦ e | false ↦ refl ]

pub bare_cut : (f t n : ℕ) (gs : List Group) → Bare gs → Bare (cut_groups f t n 0 gs)
unfolding cut_groups
bare_cut zero t n gs b = b
bare_cut (suc f) t zero gs b = b
bare_cut (suc f) t (suc n) gs b = (zero-mul (min t (suc n)), bare_cut f t (suc n - min t (suc n)) gs b)
