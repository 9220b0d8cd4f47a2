-- What a search by number says of the slip that is picked, and of the others.
use Rattle.std.proofs.Common.{◌≡◌, ℕ, ◌<◌, ◌≤◌, Bool, true, false, cond, ltb, List, ◌++◌, length, get_or, take, drop, is_some, Some, None, Option, refl, ap, ◌∙◌, sym, subst, add-one, arith}
use Rattle.std.specs.List.{remove, position, position_or_len}
use Rattle.std.proofs.lemmas.Bool.Decides.{nat_tests}
use Rattle.std.proofs.lemmas.Grind.{common_steps}
use Rattle.std.proofs.lemmas.List.Folds.{find_at}
use Rattle.std.proofs.lemmas.Option.{slice_get_past, slice_get-get_or}
use Rattle.slips.specs.declared.slips.Slip.{Slip}
use Rattle.hand.specs.Hands.{blank, has_number, picked, without}

module _ (n : ℕ) (ss : List Slip) where
  abbrev first : ℕ
  first = position_or_len (has_number n) ss

  pub absent : position (has_number n) ss ≡ None → (None ≡ picked n ss) × (without n ss ≡ ss)
  absent h = by (ltb first (length ss)) refl h
    where
      by : (v : Bool) → ltb first (length ss) ≡ v → cond v (Some first) None ≡ None → (None ≡ picked n ss) × (without n ss ≡ ss)
      by true e f = absurd cc
      by false e f =
          let past : length ss ≤ first = grind (arith, nat_tests) in
          (sym (find_at (has_number n) ss ∙ slice_get_past ss first past), grind (arith, common_steps))

  pub found : (i : ℕ) (d : Slip) → position (has_number n) ss ≡ Some i → (Some (get_or ss i d) ≡ picked n ss) × (without n ss ≡ remove ss i)
  found i d h = by (ltb first (length ss)) refl h
    where
      by : (v : Bool) → ltb first (length ss) ≡ v → cond v (Some first) None ≡ Some i → (Some (get_or ss i d) ≡ picked n ss) × (without n ss ≡ remove ss i)
      by false e f = absurd cc
      by true e f =
          let is : first ≡ i = cc in
          let inside : first < length ss = grind (arith, nat_tests) in
          subst (λ (k : ℕ). (Some (get_or ss k d) ≡ picked n ss) × (without n ss ≡ remove ss k)) is
          (sym (find_at (has_number n) ss ∙ slice_get-get_or ss first d inside), ap (λ (k : ℕ). take first ss ++ drop k ss) (add-one first))

  pub held : is_some (position (has_number n) ss) ≡ is_some (picked n ss)
  held = by (position (has_number n) ss) refl
    where
      by : (p : Option ℕ) → position (has_number n) ss ≡ p → is_some p ≡ is_some (picked n ss)
      by None e = ap is_some (absent e).0
      by (Some i) e = ap is_some (found i blank e).0
