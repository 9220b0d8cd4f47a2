-- What marking blocks leaves of a plain image: a mark at just the blocks that are listed.
use Rattle.std.proofs.Common.{◌≡◌, ℕ, ◌*◌, ◌<◌, List, [], ◌∷◌, length, get_or, inl, inr, arith, length-set, get_or-set_other, get_or-set_same, eq-eqb}
use lib.ListN.{length-replicate, get_or-replicate}
use Rattle.std.proofs.lemmas.Bool.{cases_eq, ne_eqb}
use Rattle.host.specs.Images.{spoiled, marked, plain_image, mark_of}

module _ (b x : ℕ) (image : List ℕ) (room : 513 * b < length image) where
  -- the byte at a mark after a block is marked, that one or another
  pub spoiled_there : b ≡ x → get_or (spoiled 513 0 image x) (513 * b) 0 ≡ 1
  spoiled_there e = grind (arith, get_or-set_same)

  pub spoiled_elsewhere : (b ≡ x → ⊥) → get_or (spoiled 513 0 image x) (513 * b) 0 ≡ get_or image (513 * b) 0
  spoiled_elsewhere ne = grind (arith, get_or-set_other)

pub mark_stays : (b : ℕ) (image bad : List ℕ) → 513 * b < length image → get_or image (513 * b) 0 ≡ 1 → get_or (marked 513 0 image bad) (513 * b) 0 ≡ 1
mark_stays b image [] h one = one
mark_stays b image (x ∷ bad) h one =
    mark_stays b (spoiled 513 0 image x) bad (grind (arith, length-set)) (grind (arith, spoiled_there, spoiled_elsewhere))

pub mark_by_list : (b : ℕ) (image bad : List ℕ) → 513 * b < length image → get_or image (513 * b) 0 ≡ 0 → get_or (marked 513 0 image bad) (513 * b) 0 ≡ mark_of b bad
mark_by_list b image [] h none = none
mark_by_list b image (x ∷ bad) h none =
    let h' : 513 * b < length (spoiled 513 0 image x) = grind (arith, length-set) in
    elim (cases_eq b x) [
      | inl e ↦ let stays = mark_stays b (spoiled 513 0 image x) bad h' (spoiled_there b x image h e) in grind (arith, eq-eqb)
      | inr ne ↦ let more = mark_by_list b (spoiled 513 0 image x) bad h' in grind (arith, spoiled_elsewhere, ne_eqb)
    ]

-- the marks of a new image are those that are listed
pub marks_of_plain : (n : ℕ) (bad xs : List ℕ) (b : ℕ) → xs ≡ plain_image n bad → b < n → get_or xs (513 * b) 0 ≡ mark_of b bad
marks_of_plain n bad xs b e h = grind (arith, mark_by_list, length-replicate, get_or-replicate)
