use Rattle.std.proofs.Common.{◌≡◌, ◌+◌, cond, set, ap, ◌∙◌, arith, rules}
use Rattle.disk.specs.Claimed.{words_for}
use Rattle.image_disk.proofs.commands.words.Goals.{then-is_caching, else-is_caching}
use Rattle.image_disk.proofs.commands.words.Goals as goal

pub returns : goal.returns
unfolding words_for
returns g c =
    let h = g.D.ImageDisk.held c.args.disk.now in
    let w = c.identify_words-words.ensures ∙ ap words_for c.claims.ensures in
    let n : c.if-is_caching.words ≡ cond h.store.caching 32 0 = elim c.if-is_caching.branch [ then-is_caching x ↦ search rules | else-is_caching x ↦ search rules ] in
    let z : cond h.store.caching 32 0 ≡ 0 + cond h.store.caching 32 0 = omega arith in
    (λ i. set (w i) 85 ((n ∙ z) i))
