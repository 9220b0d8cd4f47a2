-- A conversation that goes on, and the data of a transfer as its pieces find it.
use Rattle.std.specs.Prelude.{◌≡◌, ℕ, List}
use Rattle.ata.specs.Exchange.{Exchange}
use Rattle.transfer.specs.declared.conversation.Conversation.{Conversation}
use Rattle.transfer.specs.Talk.{Verdict, Ask, Held}

-- What was asked was said: the conversation c, with one drive, came to e.
pub record Said {D : Type 0} (does : D → Exchange → D → Type 0) (ks : List Ask) (c : Conversation D) (buffer : List ℕ) (e : Conversation D) (end : List ℕ) (r : Verdict) : Type 0 where
  pub drive : e.drive.ghost_name ≡ c.drive.ghost_name
  pub held : Held does ks c.drive.now buffer c.tally e.drive.now end e.tally r

-- What stays while the pieces of a transfer are moved: what is asked for each, by its address, its blocks and its place in the
-- data; how many bytes there are; and the borrow that they are reached by.
pub record Outline : Type 0 where
  pub asks : ℕ → ℕ → ℕ → Ask
  pub bytes : ℕ
  pub borrow : ℕ
