use Rattle.std.proofs.Common.{◌≡◌, Bool, cond, List, set, vec_items, sym, ap, ◌∙◌, arith, rules}
use mathlib.Core.Logic.{∥∥₁_map}
use Rattle.std.specs.Vec.{with_items}
use Rattle.std.proofs.lemmas.List.{with_items_is}
use Rattle.ata.specs.Machine.{Content, bytes}
use Rattle.disk.specs.Powers.{lit_of}
use Rattle.caching.specs.Sides.{media}
use Rattle.caching.specs.Meaning.{claims_of, image_of}
use Rattle.caching.specs.Levels.{faces_after, media_after, sinks_as, deep_where_off}
use Rattle.caching.proofs.kind.CachingDiskImageDisk.write_block.Goals as goal

pub invariant_of-self : goal.invariant_of-self
invariant_of-self c =
    let d = c.args.self.now in
    let n = d.blocks in
    let b = c.args.block in
    let x = bytes c.args.data.now in
    let new = c.write_block.new.image in
    let slice = c.as_mut_slice.result.now in
    let items = vec_items (with_items d.image new) in
    let is : items ≡ new = with_items_is d.image new (omega arith) in
    let e = c.as_mut_slice.ensures.value in
    let face = faces_after n items new slice (image_of d) b x is e (c.write_block.ensures.face n c.requires.within) in
    let deep = c.writes_deep-deep.result in
    let medium = media_after n items new slice (image_of d) b x deep is e (c.write_block.ensures.medium n c.requires.within) in record {
      whole = search rules;
      errors_fit = search rules;
      orders_fit = search rules;
      level = λ h.
          ∥∥₁_map (d.level h)
          (λ l.
          medium
          ∙ ap (λ (v : Bool). cond v (set (media n (image_of d)) b x) (media n (image_of d))) (deep_where_off c.args.through d.caching (lit_of d.power.supply) deep c.writes_deep-deep.ensures c.requires.lit h)
          ∙ ap (λ (z : List Content). set z b x) l ∙ sym face);
    }

pub returns : goal.returns
returns c =
    let d = c.args.self.now in
    let n = d.blocks in
    let b = c.args.block in
    let t = c.args.through in
    let x = bytes c.args.data.now in
    let new = c.write_block.new.image in
    let slice = c.as_mut_slice.result.now in
    let items = vec_items (with_items d.image new) in
    let is : items ≡ new = with_items_is d.image new (omega arith) in
    let e = c.as_mut_slice.ensures.value in
    let deep = c.writes_deep-deep.result in
    let face = faces_after n items new slice (image_of d) b x is e (c.write_block.ensures.face n c.requires.within) in
    let medium =
    media_after n items new slice (image_of d) b x deep is e (c.write_block.ensures.medium n c.requires.within)
    ∙ sinks_as t d.caching deep (set (media n (image_of d)) b x) (media n (image_of d)) c.writes_deep-deep.ensures in
    (λ i. record { claims = claims_of n d.through; store = record { face = face i; medium = medium i; caching = d.caching }; power = d.power })
