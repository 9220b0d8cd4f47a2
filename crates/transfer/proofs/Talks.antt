-- Conversations put together: a first command and the rest, one list of commands and then another.
use Rattle.std.proofs.Common.{◌≡◌, ℕ, ◌+◌, List, [], ◌∷◌, ◌++◌, Ok, Err, sym, refl, ap, ◌∙◌, subst, arith}
use Rattle.ata.specs.declared.answer.Answer.{Answer}
use Rattle.ata.specs.Exchange.{Exchange, exchange}
use Rattle.transfer.specs.declared.faults.Fault.{Fault}
use Rattle.transfer.specs.declared.counts.Tally.{Tally}
use Rattle.transfer.specs.Talk.{Chain, Verdict, judged, Ask, part, laid, made, Follows, placed, after, verdict, counted, tallied, Held, Asked}

module _ {D : Type 0} (does : D → Exchange → D → Type 0) where
  pub held_none : (d : D) (b : List ℕ) (p : Tally) → Held does [] d b p d b p (Ok tt)
  held_none d b p = record { said = []; chain = refl; follows = tt; bytes = refl; tally = refl; result = refl }

  -- the first command went well, and the rest is held from there
  pub held_more : (k : Ask) (ks : List Ask) (d m e : D) (b back end : List ℕ) (p q : Tally) (a : Answer) (r : Verdict) (u : Unit {0}) →
      does d (made k b back a) m → judged a ≡ Ok u →
      Held does ks m (laid k back b) (counted k a p) e end q r → Held does (k ∷ ks) d b p e end q r
  held_more k ks d m e b back end p q a r u x j h =
      record {
        said = made k b back a ∷ h.said;
        chain = (m, x, h.chain);
        follows = (refl, rw j h.follows);
        bytes = h.bytes;
        tally = h.tally;
        result = h.result ∙ ap (λ (v : Verdict). after v (verdict ks h.said)) (sym j);
      }

  placed_none : (ks : List Ask) (b : List ℕ) → b ≡ placed ks [] b
  placed_none [] b = refl
  placed_none (k ∷ ks) b = refl

  tallied_none : (ks : List Ask) (p : Tally) → p ≡ tallied ks [] p
  tallied_none [] p = refl
  tallied_none (k ∷ ks) p = refl

  -- the first command failed
  pub held_stop : (k : Ask) (ks : List Ask) (d e : D) (b back : List ℕ) (p : Tally) (a : Answer) (f : Fault) →
      does d (made k b back a) e → judged a ≡ Err f →
      Held does (k ∷ ks) d b p e (laid k back b) (counted k a p) (Err f)
  held_stop k ks d e b back p a f x j =
      record {
        said = made k b back a ∷ [];
        chain = (e, x, refl);
        follows = (refl, rw j refl);
        bytes = placed_none ks (laid k back b);
        tally = tallied_none ks (counted k a p);
        result = ap (λ (v : Verdict). after v (verdict ks [])) (sym j);
      }

  -- what is known of one command, by its numbers
  pub asked : (k : Ask) (d m : D) (before back : List ℕ) (p q : Tally) (r : Verdict) (a : Answer) → r ≡ judged a → does d (exchange k.task (k.carry before) back a) m →
      q.bytes ≡ p.bytes + k.gains (judged a) → q.commands ≡ p.commands + 1 → Asked does k d before p m back q r
  asked k d m before back p q r a told done e f =
      record {
        answer = a;
        done = done;
        tally = ap (λ (z : ℕ). record { bytes = z; commands = q.commands }) e ∙ ap (λ (z : ℕ). record { bytes = p.bytes + k.gains (judged a); commands = z }) f;
        result = told;
      }

  -- one command, and nothing after it, from what is known of it with its part of data-in
  pub held_one : (k : Ask) (d m : D) (b back before next : List ℕ) (p q : Tally) (r : Verdict) → Asked does k d before p m back q r → before ≡ part k b → next ≡ laid k back b →
      Held does (k ∷ []) d b p m next q r
  held_one k d m b back before next p q r s is-part is-next =
      rw (is-next, s.tally) (by r refl)
    where
      done : does d (made k b back s.answer) m
      done = rw is-part at s.done

      by : (v : Verdict) → r ≡ v → Held does (k ∷ []) d b p m (laid k back b) (counted k s.answer p) r
      by (Ok u) w =
          held_more k [] d m m b back (laid k back b) p (counted k s.answer p) s.answer r u done (sym s.result ∙ w)
          (rw w (held_none m (laid k back b) (counted k s.answer p)))
      by (Err f) w =
          rw w (held_stop k [] d m b back p s.answer f done (sym s.result ∙ w))

  -- a conversation taken apart at its first exchange
  pub record First (k : Ask) (ks : List Ask) (d : D) (b : List ℕ) (p : Tally) (e : D) (end : List ℕ) (q : Tally) (r : Verdict) : Type 0 where
    pub answer : Answer
    pub back : List ℕ
    pub mid : D
    pub done : does d (made k b back answer) mid
    pub well : (u : Unit {0}) → judged answer ≡ Ok u → Held does ks mid (laid k back b) (counted k answer p) e end q r
    pub badly : (f : Fault) → judged answer ≡ Err f → (mid ≡ e) × (end ≡ laid k back b) × (q ≡ counted k answer p) × (r ≡ Err f)

  pub held_first : (k : Ask) (ks : List Ask) (d e : D) (b end : List ℕ) (p q : Tally) (r : Verdict) → Held does (k ∷ ks) d b p e end q r → First k ks d b p e end q r
  held_first k ks d e b end p q r h = by h.said h.chain h.follows h.bytes h.tally h.result
    where
      by : (xs : List Exchange) → Chain does d xs e → Follows (k ∷ ks) b xs → end ≡ placed (k ∷ ks) xs b → q ≡ tallied (k ∷ ks) xs p → r ≡ verdict (k ∷ ks) xs → First k ks d b p e end q r
      by [] c f g t v = absurd f
      by (x ∷ xs) c f g t v =
          record {
            answer = x.answer;
            back = x.back;
            mid = c.0;
            done = subst (λ (z : Exchange). does d z c.0) f.0 c.1;
            well = λ u j. record {
              said = xs;
              chain = c.2;
              follows = rw j at f.1;
              bytes = g;
              tally = t;
              result = v ∙ ap (λ (z : Verdict). after z (verdict ks xs)) j;
            };
            badly = λ u j.
                let z : xs ≡ [] = rw j at f.1 in (
                  rw z at c.2,
                  g ∙ ap (λ (ys : List Exchange). placed ks ys (laid k x.back b)) z ∙ sym (placed_none ks (laid k x.back b)),
                  t ∙ ap (λ (ys : List Exchange). tallied ks ys (counted k x.answer p)) z ∙ sym (tallied_none ks (counted k x.answer p)),
                  v ∙ ap (λ (z : Verdict). after z (verdict ks xs)) j,
                );
          }

  pub held_nil : (d e : D) (b end : List ℕ) (p q : Tally) (r : Verdict) → Held does [] d b p e end q r → (d ≡ e) × (end ≡ b) × (q ≡ p) × (r ≡ Ok tt)
  held_nil d e b end p q r h = by h.said h.chain h.follows h.bytes h.tally h.result
    where
      by : (xs : List Exchange) → Chain does d xs e → Follows [] b xs → end ≡ placed [] xs b → q ≡ tallied [] xs p → r ≡ verdict [] xs → (d ≡ e) × (end ≡ b) × (q ≡ p) × (r ≡ Ok tt)
      by [] c f g t v = (c, g, t, v)
      by (x ∷ xs) c f g t v = absurd f

  no_ok : {X : Type 0} (f : Fault) (u : Unit {0}) → ◌≡◌ {A = Verdict} (Err f) (Ok u) → X
  no_ok f u e = let z : ◌≡◌ {A = ℕ} 0 1 = cc in absurd (omega arith)

  -- one list of commands that went well, and then another
  pub held_then : (ks ls : List Ask) (d m e : D) (b mid end : List ℕ) (p t q : Tally) (v r : Verdict) (u : Unit {0}) → v ≡ Ok u →
      Held does ks d b p m mid t v → Held does ls m mid t e end q r → Held does (ks ++ ls) d b p e end q r
  held_then [] ls d m e b mid end p t q v r u w h n =
      let z = held_nil d m b mid p t v h in
      rw (z.0, sym z.1, sym z.2) n
  held_then (k ∷ ks) ls d m e b mid end p t q v r u w h n =
      let f = held_first k ks d m b mid p t v h in
      by f (judged f.answer) refl
      (λ c g. held_then ks ls f.mid m e c mid end g t q v r u w)
    where
      by : (f : First k ks d b p m mid t v) (j : Verdict) → judged f.answer ≡ j →
          ((c : List ℕ) (g : Tally) → Held does ks f.mid c g m mid t v → Held does ls m mid t e end q r → Held does (ks ++ ls) f.mid c g e end q r) →
          Held does ((k ∷ ks) ++ ls) d b p e end q r
      by f (Ok y) j more =
          held_more k (ks ++ ls) d f.mid e b f.back end p q f.answer r y f.done j
          (more (laid k f.back b) (counted k f.answer p) (f.well y j) n)
      by f (Err y) j more = no_ok y u (sym (f.badly y j).3 ∙ w)

  -- one list of commands that failed: nothing after it is sent
  pub held_fail : (ks ls : List Ask) (d e : D) (b end : List ℕ) (p q : Tally) (r : Verdict) (x : Fault) → r ≡ Err x →
      Held does ks d b p e end q r → Held does (ks ++ ls) d b p e end q r
  held_fail [] ls d e b end p q r x w h = no_ok x tt (sym w ∙ (held_nil d e b end p q r h).3)
  held_fail (k ∷ ks) ls d e b end p q r x w h =
      let f = held_first k ks d e b end p q r h in
      by f (judged f.answer) refl
      (λ c g. held_fail ks ls f.mid e c end g q r x w)
    where
      by : (f : First k ks d b p e end q r) (j : Verdict) → judged f.answer ≡ j →
          ((c : List ℕ) (g : Tally) → Held does ks f.mid c g e end q r → Held does (ks ++ ls) f.mid c g e end q r) →
          Held does ((k ∷ ks) ++ ls) d b p e end q r
      by f (Ok y) j more =
          held_more k (ks ++ ls) d f.mid e b f.back end p q f.answer r y f.done j
          (more (laid k f.back b) (counted k f.answer p) (f.well y j))
      by f (Err y) j more =
          let z = f.badly y j in
          rw (sym z.0, z.1, z.2, z.3) (held_stop k (ks ++ ls) d f.mid b f.back p f.answer y f.done j)

  -- the same for whoever passes the fault on
  pub held_passed : (ks ls : List Ask) (d e : D) (b end : List ℕ) (p q : Tally) (r v : Verdict) (x : Fault) → r ≡ Err x → v ≡ Err x →
      Held does ks d b p e end q r → Held does (ks ++ ls) d b p e end q v
  held_passed ks ls d e b end p q r v x w y h =
      rw (y, sym w) (held_fail ks ls d e b end p q r x w h)
