-- The lines of a script.
use Rattle.std.specs.Prelude.{ℕ, ◌<◌, ◌≤◌, List, [], ◌∷◌, ◌==◌, IfSome}
use Rattle.std.specs.List.{before_first}
use Rattle.std.specs.Str.{trim}
use Rattle.acts.specs.declared.line.Line.{Line}
use Rattle.acts.specs.declared.line.Script.{Script}

-- a line with no comment, and no blanks around it
abbrev pub written_of : List ℕ → List ℕ
written_of line = trim (before_first (λ b. b == 35) line)

-- the numbers of the lines rise, each above `low` and none above `high`
abbrev pub RisesTo : ℕ → List Line → ℕ → Type 0
RisesTo low [] high = low ≤ high
RisesTo low (line ∷ rest) high = (low < line.number) × RisesTo line.number rest high

-- the lines stand in order, and the line that makes no sense is after them all
abbrev pub InOrder : Script → Type 0
InOrder script = (last : ℕ) × RisesTo 0 script.lines.items last × IfSome script.bad (λ stop. last < stop.line)
