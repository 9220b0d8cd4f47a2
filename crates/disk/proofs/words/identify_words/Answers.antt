use Rattle.std.proofs.Common.{ℕ, Bool, cond, ap, ◌∙◌}
use Rattle.disk.specs.Claimed.{part, laid, words_for}
use Rattle.disk.proofs.words.identify_words.Goals as goal

pub returns : goal.returns
unfolding words_for
returns c =
    let p = c.bits_from.ensures ∙ ap (λ (n : ℕ). part n 1) c.pick-short.ensures in
    let q = c.bits_from-2.ensures ∙ ap (λ (n : ℕ). part n 65536) c.pick-short.ensures in
    let t = c.pick-3.ensures ∙ ap (λ (v : Bool). cond v 64 0) c.writes_through.ensures in
    let w = c.bits_from-3.ensures ∙ ap (λ (n : ℕ). part n 1) c.pick-long.ensures in
    let x = c.bits_from-4.ensures ∙ ap (λ (n : ℕ). part n 65536) c.pick-long.ensures in
    let y = c.bits_from-5.ensures ∙ ap (λ (n : ℕ). part n 4294967296) c.pick-long.ensures in
    let z = c.bits_from-6.ensures ∙ ap (λ (n : ℕ). part n 281474976710656) c.pick-long.ensures in
    λ i. laid (p i) (q i) (c.pick.ensures i) (c.pick-2.ensures i) (t i) (w i) (x i) (y i) (z i)
