-- A drive's choices do not show while power lasts.
use Rattle.std.proofs.Common.{◌≡◌, List, None, sym, ◌∙◌, inl, inr}
use Rattle.ata.specs.Machine.{Machine, Step, Oracle, steps}
use Rattle.ata.specs.Shows.{looks}
use Rattle.ata.specs.Laws.{seen, FreedomUnseen}
use Rattle.ata.proofs.Power.{went}

shows_faces : (o : Oracle) (xs : List Step) (m : Machine) → m.left ≡ None → seen (steps o xs m) ≡ looks xs m.store.face
shows_faces o xs m h = elim (went o xs m) [ inl l ↦ l.looked | inr d ↦ absurd (d.left h) ]

pub freedom_unseen : FreedomUnseen
freedom_unseen o p xs m h = shows_faces o xs m h ∙ sym (shows_faces p xs m h)
