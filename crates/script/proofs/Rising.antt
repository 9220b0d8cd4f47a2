-- Lines whose numbers rise.
use Rattle.std.proofs.Common.{ℕ, ◌<◌, ◌≤◌, List, [], ◌∷◌, ◌++◌, arith}
use Rattle.acts.specs.declared.line.Line.{Line}
use Rattle.script.specs.Lines.{RisesTo}

-- more room at the top
pub rises_higher : (low : ℕ) (lines : List Line) (high top : ℕ) → RisesTo low lines high → high ≤ top → RisesTo low lines top
rises_higher low [] high top h le = omega arith
rises_higher low (line ∷ rest) high top h le = (h.0, rises_higher line.number rest high top h.1 le)

-- one line more, above them all
pub rises_more : (low : ℕ) (lines : List Line) (high top : ℕ) (line : Line) → RisesTo low lines high → high < line.number → line.number ≤ top → RisesTo low (lines ++ line ∷ []) top
rises_more low [] high top line h lt le = (omega arith, le)
rises_more low (first ∷ rest) high top line h lt le = (h.0, rises_more first.number rest high top line h.1 lt le)
