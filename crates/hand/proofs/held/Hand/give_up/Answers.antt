use Rattle.std.proofs.Common.{sym, ◌∙◌}
use Rattle.slips.specs.Sheets.{sheet_of}
use Rattle.hand.specs.Hands.{slips_of}
use Rattle.hand.proofs.Spends.{none_given_up, given_up_from_hand}
use Rattle.hand.proofs.held.Hand.give_up.Goals as goal

pub returns-in_err-at : goal.returns-in_err-at
returns-in_err-at c =
    none_given_up c.args.number (slips_of c.args.self.now) (sheet_of c.args.sheet.now) c.from_residual.result (sym c.find.ensures ∙ c.in_err-at.was) c.from_residual.ensures

pub returns : goal.returns
returns c =
    given_up_from_hand c.args.number (slips_of c.args.self.now) (sheet_of c.args.sheet.now) c.in_ok-at.at c.remove-slip.result c.line-line.result _ _ (sym c.find.ensures ∙ c.in_ok-at.was) c.remove-slip.ensures.value c.line-line.ensures c.remove-slip.ensures.items c.give_up.ensures
