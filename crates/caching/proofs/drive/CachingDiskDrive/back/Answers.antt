use Rattle.std.proofs.Common.{Bool, true, cond, sym, ap, ◌∙◌}
use Rattle.ata.specs.Words.{cached}
use Rattle.disk.specs.declared.power.Power.{Power}
use Rattle.disk.specs.Claimed.{words_for}
use Rattle.disk.specs.Powers.{state_with}
use Rattle.disk.proofs.Decoded.{cached_for}
use Rattle.disk.proofs.Steps.{returned_is}
use Rattle.caching.specs.Meaning.{claims_of, store_of, store_in, image_of}
use Rattle.caching.proofs.drive.CachingDiskDrive.back.Goals as goal

pub returns : goal.returns
returns c =
    let d = c.args.self.now in
    let n = d.blocks in
    let ws = words_for (claims_of n d.through) in
    let dark = sym (sym c.is_lit.ensures ∙ c.if-is_lit.false) in
    ap (λ (q : Power). state_with ws 65536 (store_of true n (image_of d)) q) c.restore.ensures
    ∙ returned_is ws 65536 (store_in d) (store_of true n (image_of d)) d.power
    (ap (λ (on : Bool). store_of on n (image_of d)) (sym (cached_for (claims_of n d.through)))
    ∙ ap (λ (v : Bool). cond v (store_in d) (store_of (cached ws) n (image_of d))) dark)
