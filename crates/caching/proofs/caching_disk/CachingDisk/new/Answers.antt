use Rattle.std.proofs.Common.{vec_items, ap, rules}
use Rattle.disk.specs.declared.power.Power.{Power}
use Rattle.disk.specs.Powers.{lit_of}
use Rattle.caching.specs.Sides.{faces, media}
use Rattle.caching.specs.Levels.{level_at_first}
use Rattle.caching.proofs.caching_disk.CachingDisk.new.Goals as goal

pub invariant_of-result : goal.invariant_of-result
invariant_of-result c =
    let n = c.min-blocks.result in
    let image = vec_items c.args.image in
    let items = vec_items c.settled.result in record { whole = search rules; errors_fit = search rules; orders_fit = search rules; level = λ h. ∣ level_at_first c.args.cache (lit_of c.new.result.supply) (media n image) (faces n image) (media n items) (faces n items) (ap (λ (p : Power). lit_of p.supply) c.new.ensures) h c.settled.ensures.medium c.settled.ensures.face ∣₁ }
