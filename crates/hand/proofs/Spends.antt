-- Entering and giving up, by where the slip of the number stands.
use Rattle.std.proofs.Common.{◌≡◌, ℕ, ◌+◌, true, false, List, get_or, Some, None, Ok, Err, Option, Result, sym, refl, ap, ◌∙◌, add-one}
use Rattle.std.specs.List.{remove, position}
use Rattle.std.specs.Result.{IsErrAnd}
use Rattle.sense.specs.declared.refusal.Refusal.TheVariants.{SheetFull}
use Rattle.slips.specs.declared.slips.Slip.{Slip}
use Rattle.slips.specs.declared.slips.Line.{Line}
use Rattle.slips.specs.Slips.{line_of}
use Rattle.slips.specs.Sheets.{Sheet, is_full, entered, one_given_up}
use Rattle.hand.specs.declared.held.NotEntered.{NotEntered}
use Rattle.hand.specs.declared.held.NotEntered.TheVariants.{NotInHand, Refused}
use Rattle.hand.specs.Hands.{blank, has_number, picked, Enters, GivesUp, all_given_up}
use Rattle.hand.proofs.Picks.{absent, found}

err_by : (r : Result Line NotEntered) (x : NotEntered) → IsErrAnd r (λ y. y ≡ x) → r ≡ Err x
err_by (Ok l) x h = absurd h
err_by (Err y) x h = ap Err h

module _ (n : ℕ) (ss : List Slip) (t : Sheet) where
  pub not_entered : (r : Result Line NotEntered) (x : NotEntered) → position (has_number n) ss ≡ None → x ≡ NotInHand → IsErrAnd r (λ y. y ≡ x) → Enters n ss t r ss t
  not_entered r x e is h = rw (sym (absent n ss e).0) (record { answer = err_by r x h ∙ ap Err is; hand = refl; sheet = refl })

  pub none_given_up : (r : Option Line) → position (has_number n) ss ≡ None → r ≡ None → GivesUp n ss t r ss t
  none_given_up r e a = rw (sym (absent n ss e).0) (record { answer = a; hand = refl; sheet = refl })

  pub stays_in_hand : (i : ℕ) → position (has_number n) ss ≡ Some i → is_full t ≡ true → Enters n ss t (Err (Refused SheetFull)) ss t
  stays_in_hand i at full = rw full (rw (sym (found n ss i blank at).0) (record { answer = refl; hand = refl; sheet = refl }))

  module _ (i : ℕ) (s : Slip) (l : Line) (ss' : List Slip) (t' : Sheet) (at : position (has_number n) ss ≡ Some i) (is : s ≡ get_or ss i s) (line : l ≡ line_of s) (rest : ss' ≡ remove ss i) where
    picks : Some s ≡ picked n ss
    picks = ap (λ (x : Slip). Some x) is ∙ (found n ss i s at).0

    pub goes_to_sheet : is_full t ≡ false → t' ≡ entered (line_of s) t → Enters n ss t (Ok l) ss' t'
    goes_to_sheet free e =
        rw free (rw (sym picks) (record { answer = ap (λ (x : Line). Ok x) line; hand = rest ∙ sym (found n ss i s at).1; sheet = e }))

    pub given_up_from_hand : t' ≡ one_given_up t → GivesUp n ss t (Some l) ss' t'
    given_up_from_hand e =
        rw (sym picks) (record { answer = ap (λ (x : Line). Some x) line; hand = rest ∙ sym (found n ss i s at).1; sheet = e })

pub all_more : (n : ℕ) (t : Sheet) → all_given_up (n + 1) t ≡ all_given_up n (one_given_up t)
unfolding all_given_up
all_more n t = ap (λ (k : ℕ). all_given_up k t) (add-one n)

pub all_none : (t : Sheet) → all_given_up 0 t ≡ t
unfolding all_given_up
all_none t = refl
