-- How a unit begins.
use Rattle.std.specs.Prelude.{◌≡◌, ℕ, Bool, true, false, List, replicate, Ok, Err}
use Rattle.ata.specs.declared.answer.Answer.{Answer}
use Rattle.ata.specs.declared.task.AtaCommand.TheVariants.{IdentifyDevice}
use Rattle.ata.specs.Words.{wide, through}
use Rattle.ata.specs.Commands.{State, size, fetches_words}
use Rattle.ata.specs.Exchange.{Exchange, exchange}
use Rattle.transfer.specs.Tasks.{width_of, task}
use Rattle.transfer.specs.Talk.{Verdict, judged}
use Rattle.unit.specs.declared.known.Facts.{Facts}
use Rattle.unit.specs.declared.standing.Phase.{Phase}
use Rattle.unit.specs.declared.standing.Phase.TheVariants.{Unfit, Attention, Ready}
use Rattle.unit.specs.Fitness.{is_fit, KnownFrom}

-- fit where IDENTIFY DEVICE succeeded and its words are
abbrev pub fit_by : Verdict → List ℕ → Bool
fit_by (Ok u) ws = is_fit ws
fit_by (Err f) ws = false

-- A fit unit begins with an attention, and remembers what the words say.
abbrev pub Begins : Verdict → List ℕ → Phase → Type 0
Begins v ws Unfit = fit_by v ws ≡ false
Begins v ws (Attention f) = (fit_by v ws ≡ true) × KnownFrom ws f
Begins v ws (Ready f) = ⊥

-- IDENTIFY DEVICE was sent, and nothing else.
pub record Identified {D : Type 0} (does : D → Exchange → D → Type 0) (d e : D) (p : Phase) : Type 0 where
  pub answer : Answer
  pub words : List ℕ
  pub sent : does d (exchange (task IdentifyDevice 0 0) (fetches_words (replicate 256 0)) words answer) e
  pub begins : Begins (judged answer) words p

-- What is remembered is true of the drive.
pub record Knows (f : Facts) (s : State) : Type 0 where
  pub blocks : f.blocks ≡ size s
  pub width : f.width ≡ width_of (wide s.words)
  pub through : f.through ≡ through s.words

abbrev pub Remembers : Phase → State → Type 0
Remembers Unfit s = Unit {0}
Remembers (Attention f) s = Knows f s
Remembers (Ready f) s = Knows f s
