-- What a bounded list holds, and how many entries it has places for: of entries of any kind.
use Rattle.std.specs.Prelude.{ℕ, List, length, take}
use Rattle.bounded.specs.declared.list.Bounded.{Bounded}

abbrev pub entries : {T : Type 0} → Bounded T → List T
entries b = take b.len b.places.now

abbrev pub room : {T : Type 0} → Bounded T → ℕ
room b = length b.places.now
