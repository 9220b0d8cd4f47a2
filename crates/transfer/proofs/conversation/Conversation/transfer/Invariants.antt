use Rattle.std.proofs.Common.{◌≡◌, ℕ, ◌+◌, ◌-◌, ◌*◌, ◌≤◌, min, List}
use Rattle.transfer.specs.declared.conversation.Conversation.{Conversation}
use Rattle.transfer.specs.Talk.{Verdict}
use Rattle.transfer.specs.Asks.{pieces}
use Rattle.transfer.specs.Said.{Said}
use Rattle.transfer.proofs.conversation.Conversation.transfer.Given as goal

-- Whatever is said of the rest from here makes the whole.
abbrev pub invariant-loop-done : goal.invariant-loop-done
invariant-loop-done g l =
    record {
      outline : g.T.TransferData.outline l.data ≡ g.T.TransferData.outline l.initial.data;
      commands : l.self.tally.commands ≤ l.initial.self.tally.commands + min l.done l.count;
      bytes : l.self.tally.bytes ≤ 512 * l.done;
      said : (b : List ℕ) (e : Conversation g.row.D.Denot) (end : List ℕ) (r : Verdict) →
          Said g.D.Drive.does (pieces (g.T.TransferData.outline l.initial.data).asks l.size.blocks (l.start.value + l.done) (l.count - l.done) (512 * l.done)) l.self (g.T.TransferData.data_in l.data b) e end r →
          Said g.D.Drive.does (pieces (g.T.TransferData.outline l.initial.data).asks l.size.blocks l.start.value l.count 0) l.initial.self (g.T.TransferData.data_in l.initial.data b) e end r;
    }

abbrev pub decreases-loop-done : goal.decreases-loop-done
decreases-loop-done g l = l.count - l.done
