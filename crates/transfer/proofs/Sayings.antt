-- What is said in one conversation, put together.
use Rattle.std.proofs.Common.{◌≡◌, ℕ, ◌+◌, ◌-◌, ◌*◌, ◌<◌, ◌≤◌, min, List, [], ◌∷◌, ◌++◌, Ok, Err, refl, ap, ◌∙◌, arith}
use Rattle.std.specs.Result.{IsErrAnd}
use Rattle.std.proofs.lemmas.Result.{err_from_is_err_and}
use Rattle.ata.specs.declared.answer.Answer.{Answer}
use Rattle.ata.specs.declared.task.TaskFile.{TaskFile}
use Rattle.ata.specs.Commands.{nothing}
use Rattle.ata.specs.Exchange.{Exchange, exchange}
use Rattle.transfer.specs.declared.faults.Fault.{Fault}
use Rattle.transfer.specs.declared.conversation.Conversation.{Conversation}
use Rattle.transfer.specs.Talk.{Verdict, Ask, judged}
use Rattle.transfer.specs.Asks.{pieces, plain_ask}
use Rattle.transfer.specs.Said.{Said}
use Rattle.transfer.proofs.Talks.{held_none, held_then, held_passed, asked, held_one}
use Rattle.transfer.proofs.Cuts.{pieces_none, pieces_more}

module _ {D : Type 0} (does : D → Exchange → D → Type 0) where
  pub said_none : (c : Conversation D) (b : List ℕ) → Said does [] c b c b (Ok tt)
  said_none c b = record { drive = refl; held = held_none does c.drive.now b c.tally }

  -- one command that moves no data, from what is known of it
  pub said_plain : (t : TaskFile) (c e : Conversation D) (r : Verdict) → ((a : Answer) × does c.drive.now (exchange t nothing [] a) e.drive.now × (r ≡ judged a)) →
      e.drive.ghost_name ≡ c.drive.ghost_name → e.tally.bytes ≡ c.tally.bytes → e.tally.commands ≡ c.tally.commands + 1 → (b : List ℕ) → Said does (plain_ask t ∷ []) c b e b r
  said_plain t c e r x drive bytes commands b =
      record {
        drive = drive;
        held = held_one does (plain_ask t) c.drive.now e.drive.now b [] [] b c.tally e.tally r
            (asked does (plain_ask t) c.drive.now e.drive.now [] [] c.tally e.tally r x.0 x.2 x.1 (omega arith) commands) refl refl;
      }

  -- one list of commands that went well, and then another
  pub said_then : (ks ls : List Ask) (c m e : Conversation D) (b mid end : List ℕ) (v r : Verdict) (u : Unit {0}) → v ≡ Ok u →
      Said does ks c b m mid v → Said does ls m mid e end r → Said does (ks ++ ls) c b e end r
  said_then ks ls c m e b mid end v r u w h n =
      record {
        drive = n.drive ∙ h.drive;
        held = held_then does ks ls c.drive.now m.drive.now e.drive.now b mid end c.tally m.tally e.tally v r u w h.held n.held;
      }

  -- one list of commands that failed: the fault is passed on, and nothing after it is sent
  pub said_passed : (ks ls : List Ask) (c e : Conversation D) (b end : List ℕ) (r v : Verdict) (x : Fault) → r ≡ Err x → IsErrAnd v (λ (y : Fault). y ≡ x) →
      Said does ks c b e end r → Said does (ks ++ ls) c b e end v
  said_passed ks ls c e b end r v x w i h =
      let p = err_from_is_err_and v i in
      record {
        drive = h.drive;
        held = held_passed does ks ls c.drive.now e.drive.now b end c.tally e.tally r v x w (p.1 ∙ ap Err p.2) h.held;
      }

  -- the first piece of a range was asked
  module _ (ask : ℕ → ℕ → ℕ → Ask) (t b n at : ℕ) (c m : Conversation D) (buffer mid : List ℕ) (v : Verdict) (some : 0 < t) (left : 0 < n)
      (first : Said does (ask b (min t n) at ∷ []) c buffer m mid v) where
    from_first : (b' n' at' : ℕ) (e : Conversation D) (end : List ℕ) (r : Verdict) → b' ≡ b + t → n' ≡ n - t → at' ≡ at + 512 * t →
        Said does (ask b (min t n) at ∷ pieces ask t b' n' at') c buffer e end r → Said does (pieces ask t b n at) c buffer e end r
    from_first b' n' at' e end r x y z h =
        rw (pieces_more ask t b n at (min t n) b' n' at' some left refl x y z) h

    -- well, and the others from the next on
    pub said_more : (u : Unit {0}) (b' n' at' : ℕ) (e : Conversation D) (end : List ℕ) (r : Verdict) → v ≡ Ok u → b' ≡ b + t → n' ≡ n - t → at' ≡ at + 512 * t →
        Said does (pieces ask t b' n' at') m mid e end r → Said does (pieces ask t b n at) c buffer e end r
    said_more u b' n' at' e end r w x y z h =
        from_first b' n' at' e end r x y z
        (said_then (ask b (min t n) at ∷ []) (pieces ask t b' n' at') c m e buffer mid end v r u w first h)

    -- and it was the last
    pub said_last : (u : Unit {0}) → v ≡ Ok u → n ≤ t → Said does (pieces ask t b n at) c buffer m mid (Ok tt)
    said_last u w l =
        said_more u (b + t) (n - t) (at + 512 * t) m mid (Ok tt) w refl refl refl
        (rw (pieces_none ask t (b + t) (n - t) (at + 512 * t) (omega arith)) (said_none m mid))

    -- and it failed
    pub said_stop : (x : Fault) (r : Verdict) → v ≡ Err x → IsErrAnd r (λ (y : Fault). y ≡ x) → Said does (pieces ask t b n at) c buffer m mid r
    said_stop x r w i =
        from_first (b + t) (n - t) (at + 512 * t) m mid r refl refl refl
        (said_passed (ask b (min t n) at ∷ []) (pieces ask t (b + t) (n - t) (at + 512 * t)) c m buffer mid v r x w i first)
