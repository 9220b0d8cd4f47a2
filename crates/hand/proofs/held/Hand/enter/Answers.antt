use Rattle.std.proofs.Common.{◌≡◌, ℕ, Option, sym, ap, ◌∙◌, rules}
use Rattle.std.specs.Option.{ok_or}
use Rattle.slips.specs.Sheets.{sheet_of}
use Rattle.hand.specs.declared.held.NotEntered.TheVariants.{NotInHand}
use Rattle.hand.specs.Hands.{slips_of}
use Rattle.hand.proofs.Spends.{not_entered, stays_in_hand, goes_to_sheet}
use Rattle.hand.proofs.held.Hand.enter.Goals as goal

pub returns-in_err-at : goal.returns-in_err-at
returns-in_err-at c =
    let e = c.in_err-at.ensures.value ∙ ap (λ (p : Option ℕ). ok_or p NotInHand) c.in_err-at.ensures.ok_part in
    let is : c.in_err-at.field-0.0 ≡ NotInHand = cc in
    not_entered c.args.number (slips_of c.args.self.now) (sheet_of c.args.sheet.now) c.from_residual.result c.in_err-at.field-0.0 (sym c.find.ensures ∙ c.in_err-at.ensures.ok_part) is c.from_residual.ensures.1

pub returns-then-is_full : goal.returns-then-is_full
returns-then-is_full c =
    stays_in_hand c.args.number (slips_of c.args.self.now) (sheet_of c.args.sheet.now) c.in_ok-at.at (sym c.find.ensures ∙ c.in_ok-at.ensures.ok_part) (sym c.is_full.ensures ∙ c.if-is_full.true)

pub returns : goal.returns
returns c =
    goes_to_sheet c.args.number (slips_of c.args.self.now) (sheet_of c.args.sheet.now) c.in_ok-at.at c.remove-slip.result c.line-line.result _ _ (sym c.find.ensures ∙ c.in_ok-at.ensures.ok_part) c.remove-slip.ensures.value c.line-line.ensures c.remove-slip.ensures.items (sym c.is_full.ensures ∙ c.if-is_full.false) (search rules)
