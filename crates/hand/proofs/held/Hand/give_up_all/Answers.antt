use Rattle.std.proofs.Common.{◌≡◌, ℕ, ◌+◌, length, vec_items, sym, ap, ◌∙◌, arith}
use Rattle.std.proofs.lemmas.List.{length_push}
use Rattle.slips.specs.Sheets.{Sheet, sheet_of}
use Rattle.hand.specs.Hands.{all_given_up}
use Rattle.hand.proofs.Spends.{all_more, all_none}
use Rattle.hand.proofs.held.Hand.give_up_all.Goals as goal

pub loop-last-preserved : goal.loop-last-preserved
loop-last-preserved c =
    let rest = vec_items c.pop.new.self in
    let more : length (vec_items c.loop-last.self.slips) ≡ length rest + 1 =
    ap length c.in-Some.ensures.items ∙ length_push rest c.in-Some.last in
    ap (λ (t : Sheet). all_given_up (length rest) t) c.give_up.ensures
    ∙ sym (all_more (length rest) (sheet_of c.loop-last.sheet))
    ∙ ap (λ (n : ℕ). all_given_up n (sheet_of c.loop-last.sheet)) (sym more)
    ∙ c.loop-last.invariant

pub returns : goal.returns
returns c =
    let none : length (vec_items c.loop-last.self.slips) ≡ 0 = omega (arith, c.in_default.ensures.cases, c.loop-last.self.slips.ok.0) in
    sym (ap (λ (n : ℕ). all_given_up n (sheet_of c.loop-last.sheet)) none ∙ all_none (sheet_of c.loop-last.sheet))
    ∙ c.loop-last.invariant
