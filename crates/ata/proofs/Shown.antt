-- What reads and writes show, in the words of blocks.
use Rattle.std.proofs.Common.{◌≡◌, ℕ, zero, suc, ◌+◌, ◌<◌, ◌≤◌, Bool, true, cond, ltb, List, [], ◌∷◌, ◌++◌, length, get_or, take, drop, set, sym, refl, ap, ◌∙◌, append_assoc, add-zero, arith, drop-cons, take-suc-set, drop-set-lt, Ok, Err}
use Rattle.std.proofs.lemmas.List.{take-append-drop, length-set}
use Rattle.std.proofs.lemmas.Bool.Decides.{nat_tests}
use Rattle.ata.specs.Machine.{End}
use Rattle.ata.specs.declared.answer.Stop.TheVariants.{Unreadable, Cut}
use Rattle.ata.specs.Machine.{Content, unreadable, bytes, Step, read_step, verify_step, write_step, flush_step, cache_step, idle_step, Look, look, shown, end_of_read, bytes_of_read}
use Rattle.ata.specs.Commands.{reads, writes}
use Rattle.ata.specs.Shows.{next_look, looks, range, readable, content, written, read_end, read_shows, write_shows}

range_more : (b n : ℕ) (f : List Content) → b < length f → range b (suc n) f ≡ get_or f b unreadable ∷ range (suc b) n f
range_more b n f h = ap (take (suc n)) (drop-cons f b unreadable h)

end_more : (b n k : ℕ) → read_end (suc b) n k ≡ read_end b (suc n) (suc k)
end_more b n k =
    let e : ltb (suc k) (suc n) ≡ ltb k n = grind (arith, nat_tests) in
    let i : suc b + k ≡ b + suc k = omega arith in
    ap (λ (z : ℕ). cond (ltb k n) (Err (Unreadable z)) (Ok tt)) i ∙ ap (λ (v : Bool). cond v (Err (Unreadable (b + suc k))) (Ok tt)) (sym e)

-- one block, and then the rest
abbrev after_one : ℕ → ℕ → List Content → Content → Look
after_one b n f c = next_look (end_of_read c b) (bytes_of_read c) f (λ h. read_shows (suc b) n h)

abbrev at_once : ℕ → ℕ → List Content → List Content → Look
at_once b n f cs = record { end = read_end b n (readable cs); given = content cs; face = f }

one_more : (b n : ℕ) (f : List Content) (c : Content) → after_one b n f c ≡ at_once b (suc n) f (c ∷ range (suc b) n f)
unfolding readable content
one_more b n f (bytes xs) = ap (λ (e : End). record { end = e; given = xs ++ content (range (suc b) n f); face = f }) (end_more b n (readable (range (suc b) n f)))
one_more b n f unreadable =
    let e : ltb 0 (suc n) ≡ true = grind (arith, nat_tests) in
    let i : b + 0 ≡ b = omega arith in
    ap (λ (z : ℕ). record { end = Err (Unreadable z); given = []; face = f }) (sym i) ∙ ap (λ (v : Bool). record { end = cond v (Err (Unreadable (b + 0))) (Ok tt); given = []; face = f }) (sym e)

pub looks_reads : (n b : ℕ) (f : List Content) → b + n ≤ length f → looks (reads b n) f ≡ read_shows b n f
unfolding reads readable content
looks_reads zero b f h = refl
looks_reads (suc n) b f h =
    by (end_of_read (get_or f b unreadable) b) (bytes_of_read (get_or f b unreadable)) (looks_reads n (suc b) f (omega arith))
    ∙ one_more b n f (get_or f b unreadable)
    ∙ ap (at_once b (suc n) f) (sym (range_more b n f (omega arith)))
  where
    by : (e : End) (g : List ℕ) → looks (reads (suc b) n) f ≡ read_shows (suc b) n f → next_look e g f (λ k. looks (reads (suc b) n) k) ≡ next_look e g f (λ k. read_shows (suc b) n k)
    by (Ok tt) g more = ap (λ (k : Look). record { end = k.end; given = g ++ k.given; face = k.face }) more
    by (Err (Unreadable x)) g more = refl
    by (Err Cut) g more = refl

written_more : (b : ℕ) (c : Content) (cs f : List Content) → b < length f → written (suc b) cs (set f b c) ≡ written b (c ∷ cs) f
written_more b c cs f h =
    let i : suc b + length cs ≡ b + suc (length cs) = omega arith in
    ap (λ (z : List Content). z ++ (cs ++ drop (suc b + length cs) (set f b c))) (take-suc-set f b c h)
    ∙ append_assoc (take b f) (c ∷ []) (cs ++ drop (suc b + length cs) (set f b c))
    ∙ ap (λ (z : List Content). take b f ++ (c ∷ (cs ++ z))) (drop-set-lt (suc b + length cs) f b c (omega arith) ∙ ap (λ (z : ℕ). drop z f) i)

pub looks_writes : (t : Bool) (cs : List Content) (b : ℕ) (f : List Content) → b + length cs ≤ length f → looks (writes t b cs) f ≡ write_shows b cs f
unfolding writes
looks_writes t [] b f h = ap shown (sym (ap (λ (z : ℕ). take b f ++ drop z f) (add-zero b) ∙ take-append-drop b f))
looks_writes t (c ∷ cs) b f h =
    let l : length (set f b c) ≡ length f = length-set f b c in
    looks_writes t cs (suc b) (set f b c) (omega arith) ∙ ap shown (written_more b c cs f (omega arith))

-- steps that show only done steps and no bytes, one list after another
pub looks_join : (xs ys : List Step) (f : List Content) → looks (xs ++ ys) f ≡ next_look (looks xs f).end (looks xs f).given (looks xs f).face (λ h. looks ys h)
looks_join [] ys f = refl
looks_join (x ∷ xs) ys f = by (look x f).end (look x f).given (look x f).face (λ h. looks_join xs ys h)
  where
    add : (e : End) (g k : List ℕ) (h : List Content) → next_look (Ok tt) g h (λ z. next_look e k z (λ q. looks ys q)) ≡ next_look e (g ++ k) h (λ q. looks ys q)
    add (Ok tt) g k h = ap (λ (z : List ℕ). record { end = (looks ys h).end; given = z; face = (looks ys h).face }) (sym (append_assoc g k (looks ys h).given))
    add (Err (Unreadable b)) g k h = refl
    add (Err Cut) g k h = refl

    by : (e : End) (g : List ℕ) (h : List Content) → ((h : List Content) → looks (xs ++ ys) h ≡ next_look (looks xs h).end (looks xs h).given (looks xs h).face (λ q. looks ys q)) →
        next_look e g h (λ k. looks (xs ++ ys) k) ≡ next_look (next_look e g h (λ k. looks xs k)).end (next_look e g h (λ k. looks xs k)).given (next_look e g h (λ k. looks xs k)).face (λ q. looks ys q)
    by (Ok tt) g h more =
        ap (λ (k : Look). record { end = k.end; given = g ++ k.given; face = k.face }) (more h) ∙ add (looks xs h).end g (looks xs h).given (looks xs h).face
    by (Err (Unreadable b)) g h more = refl
    by (Err Cut) g h more = refl

-- what is shown is never without power
pub never_cut : (xs : List Step) (f : List Content) → (looks xs f).end ≡ Err Cut → ⊥
never_cut [] f e = let z : ◌≡◌ {A = ℕ} 0 1 = cc in omega arith
never_cut (x ∷ xs) f e = by (look x f).end (look x f).given (look x f).face (λ h. one x f h) e (λ h. never_cut xs h)
  where
    read_lit : (c : Content) (b : ℕ) → end_of_read c b ≡ Err Cut → ⊥
    read_lit (bytes ys) b e = let z : ◌≡◌ {A = ℕ} 0 1 = cc in omega arith
    read_lit unreadable b e = let z : ◌≡◌ {A = ℕ} 0 1 = cc in omega arith

    done_lit : ◌≡◌ {A = End} (Ok tt) (Err Cut) → ⊥
    done_lit e = let z : ◌≡◌ {A = ℕ} 0 1 = cc in omega arith

    one : (x : Step) (f : List Content) → (look x f).end ≡ Err Cut → ⊥
    one (read_step b) f e = read_lit (get_or f b unreadable) b e
    one (verify_step b) f e = read_lit (get_or f b unreadable) b e
    one (write_step t b c) f e = done_lit e
    one flush_step f e = done_lit e
    one (cache_step on) f e = done_lit e
    one idle_step f e = done_lit e

    by : (e : End) (g : List ℕ) (h : List Content) → (e ≡ Err Cut → ⊥) → (next_look e g h (λ k. looks xs k)).end ≡ Err Cut → ((h : List Content) → (looks xs h).end ≡ Err Cut → ⊥) → ⊥
    by (Ok tt) g h n w more = more h w
    by (Err (Unreadable b)) g h n w more = n w
    by (Err Cut) g h n w more = n refl
