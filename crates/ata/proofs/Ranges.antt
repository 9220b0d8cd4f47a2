-- Transfers of a range of blocks: cut in two, and what they give and show.
use Rattle.std.proofs.Common.{◌≡◌, ℕ, zero, suc, ◌+◌, ◌-◌, ◌*◌, ◌<◌, ◌≤◌, Bool, List, [], ◌∷◌, ◌++◌, length, get_or, drop, Some, None, Option, sym, refl, ap, ◌∙◌, add-zero, zero-add, arith, Ok, Err}
use Rattle.std.proofs.lemmas.List.{length-append}
use Rattle.ata.specs.Machine.{End}
use Rattle.ata.specs.declared.answer.Stop.TheVariants.{Unreadable, Cut}
use Rattle.ata.specs.Machine.{Content, unreadable, bytes, Machine, Step, read_step, write_step, Choice, Oracle, look, end_of_read, bytes_of_read, settled, powered, step, steps, next}
use Rattle.ata.specs.Commands.{reads, writes, blocks, Sector}

pub reads_split : (b m n : ℕ) → reads b (m + n) ≡ reads b m ++ reads (b + m) n
unfolding reads
reads_split b zero n = rw (zero-add, add-zero)
reads_split b (suc m) n =
    let e : suc m + n ≡ suc (m + n) = omega arith in
    let e2 : b + suc m ≡ suc b + m = omega arith in
    rw (e, e2) (ap (λ (r : List Step). read_step b ∷ r) (reads_split (suc b) m n))

pub length_reads : (b n : ℕ) → length (reads b n) ≡ n
unfolding reads
length_reads b zero = refl
length_reads b (suc n) = ap suc (length_reads (suc b) n)

pub writes_join : (t : Bool) (b : ℕ) (cs ds : List Content) → writes t b (cs ++ ds) ≡ writes t b cs ++ writes t (b + length cs) ds
unfolding writes
writes_join t b [] ds = rw add-zero
writes_join t b (c ∷ cs) ds =
    let e : b + suc (length cs) ≡ suc b + length cs = omega arith in
    rw e (ap (λ (r : List Step). write_step t b c ∷ r) (writes_join t (suc b) cs ds))

pub length_writes : (t : Bool) (b : ℕ) (cs : List Content) → length (writes t b cs) ≡ length cs
unfolding writes
length_writes t b [] = refl
length_writes t b (c ∷ cs) = ap suc (length_writes t (suc b) cs)

pub length_blocks : (n : ℕ) (xs : List ℕ) → length (blocks n xs) ≡ n
unfolding blocks
length_blocks zero xs = refl
length_blocks (suc n) xs = ap suc (length_blocks n (drop 512 xs))

abbrev pub Sectors : List Content → Type 0
Sectors f = (k : ℕ) → Sector (get_or f k unreadable)

-- What is known of a read of n blocks from b on.
pub record Read (b n : ℕ) (m : Machine) (e : End) (g : List ℕ) (m' : Machine) : Type 0 where
  pub few : length g ≤ 512 * n
  pub all : e ≡ Ok tt → length g ≡ 512 * n
  pub first : (x : ℕ) → e ≡ Err (Unreadable x) → b ≤ x
  pub last : (x : ℕ) → e ≡ Err (Unreadable x) → x < b + n
  pub before : (x : ℕ) → e ≡ Err (Unreadable x) → length g ≡ 512 * (x - b)
  pub faces : e ≡ Ok tt → m'.store.face ≡ m.store.face

pub no_stop : {X : Type 0} {b : ℕ} → ◌≡◌ {A = End} (Err (Unreadable b)) (Ok tt) → X
no_stop e = let z : ◌≡◌ {A = ℕ} 0 1 = cc in absurd (omega arith)

pub no_cut : {X : Type 0} → ◌≡◌ {A = End} (Err Cut) (Ok tt) → X
no_cut e = let z : ◌≡◌ {A = ℕ} 0 1 = cc in absurd (omega arith)

done_stop : {X : Type 0} (x : ℕ) → ◌≡◌ {A = End} (Ok tt) (Err (Unreadable x)) → X
done_stop x e = let z : ◌≡◌ {A = ℕ} 0 1 = cc in absurd (omega arith)

cut_stop : {X : Type 0} (x : ℕ) → ◌≡◌ {A = End} (Err Cut) (Err (Unreadable x)) → X
cut_stop x e = let z : ◌≡◌ {A = ℕ} 0 1 = cc in absurd (omega arith)

stop_is : (b x : ℕ) → ◌≡◌ {A = End} (Err (Unreadable b)) (Err (Unreadable x)) → b ≡ x
stop_is b x e = cc

read_one : (c : Content) (b : ℕ) (m n : Machine) → Sector c → n.store.face ≡ m.store.face → Read b 1 m (end_of_read c b) (bytes_of_read c) n
read_one (bytes xs) b m n s f = record { few = omega arith; all = λ _. omega arith; first = λ x e. done_stop x e; last = λ x e. done_stop x e; before = λ x e. done_stop x e; faces = λ _. f }
read_one unreadable b m n s f =
    record {
      few = omega arith;
      all = no_stop;
      first = λ x e. (let i = stop_is b x e in omega arith);
      last = λ x e. (let i = stop_is b x e in omega arith);
      before = λ x e. (let i = stop_is b x e in omega arith);
      faces = no_stop;
    }

step_one : (c : Choice) (b : ℕ) (m : Machine) → Sectors m.store.face → Read b 1 m (step c (read_step b) m).end (step c (read_step b) m).given (step c (read_step b) m).machine
step_one c b m s = by m.left
  where
    by : (l : Option ℕ) → Read b 1 m (powered l (read_step b) (settled c m)).end (powered l (read_step b) (settled c m)).given (powered l (read_step b) (settled c m)).machine
    by None = read_one (get_or m.store.face b unreadable) b m _ (s b) refl
    by (Some zero) = record { few = omega arith; all = no_cut; first = λ x e. cut_stop x e; last = λ x e. cut_stop x e; before = λ x e. cut_stop x e; faces = no_cut }
    by (Some (suc k)) = read_one (get_or m.store.face b unreadable) b m _ (s b) refl

pub reads_read : (n b : ℕ) (o : Oracle) (m : Machine) → Sectors m.store.face →
    Read b n m (steps o (reads b n) m).end (steps o (reads b n) m).given (steps o (reads b n) m).machine
unfolding reads
reads_read zero b o m s = record { few = omega arith; all = λ _. omega arith; first = λ x e. done_stop x e; last = λ x e. done_stop x e; before = λ x e. done_stop x e; faces = λ _. refl }
reads_read (suc n) b o m s =
    by (step (o 0) (read_step b) m).end (step (o 0) (read_step b) m).given (step (o 0) (read_step b) m).machine
    (step_one (o 0) b m s)
    (λ k. reads_read n (suc b) (λ i. o (suc i)) k)
  where
    by : (e : End) (g : List ℕ) (k : Machine) → Read b 1 m e g k →
        ((k : Machine) → Sectors k.store.face → Read (suc b) n k (steps (λ i. o (suc i)) (reads (suc b) n) k).end (steps (λ i. o (suc i)) (reads (suc b) n) k).given (steps (λ i. o (suc i)) (reads (suc b) n) k).machine) →
        Read b (suc n) m (next e g k (λ q. steps (λ i. o (suc i)) (reads (suc b) n) q)).end (next e g k (λ q. steps (λ i. o (suc i)) (reads (suc b) n) q)).given (next e g k (λ q. steps (λ i. o (suc i)) (reads (suc b) n) q)).machine
    by (Ok tt) g k one more =
        let f : k.store.face ≡ m.store.face = one.faces refl in
        let r = more k (λ j. rw f (s j)) in
        let a : length g ≡ 512 * 1 = one.all refl in
        let rest = (steps (λ i. o (suc i)) (reads (suc b) n) k).given in
        let l : length (g ++ rest) ≡ length g + length rest = length-append g rest in
        let w = r.few in
        record {
          few = omega arith;
          all = λ x. (let y = r.all x in omega arith);
          first = λ x e. (let y = r.first x e in omega arith);
          last = λ x e. (let y = r.last x e in omega arith);
          before = λ x e. (let y = r.before x e in let z = r.first x e in omega arith);
          faces = λ x. r.faces x ∙ f;
        }
    by (Err (Unreadable z)) g k one more =
        let w = one.few in
        record {
          few = omega arith;
          all = no_stop;
          first = one.first;
          last = λ x e. (let y = one.last x e in omega arith);
          before = one.before;
          faces = no_stop;
        }
    by (Err Cut) g k one more =
        let w = one.few in
        record { few = omega arith; all = no_cut; first = λ x e. cut_stop x e; last = λ x e. cut_stop x e; before = λ x e. cut_stop x e; faces = no_cut }

-- Steps that show no bytes and meet no unreadable block.
abbrev pub Silent : List Step → Type 0
Silent [] = Unit {0}
Silent (x ∷ xs) = ((f : List Content) → ((look x f).end ≡ Ok tt) × ((look x f).given ≡ [])) × Silent xs

pub record GivesNothing (e : End) (g : List ℕ) : Type 0 where
  pub none : g ≡ []
  pub never : (x : ℕ) → e ≡ Err (Unreadable x) → ⊥

silent_one : (c : Choice) (x : Step) (m : Machine) → ((f : List Content) → ((look x f).end ≡ Ok tt) × ((look x f).given ≡ [])) → GivesNothing (step c x m).end (step c x m).given
silent_one c x m h = by m.left
  where
    looked : (f : List Content) (k : ℕ) → (look x f).end ≡ Err (Unreadable k) → ⊥
    looked f k e = done_stop k (sym (h f).0 ∙ e)

    by : (l : Option ℕ) → GivesNothing (powered l x (settled c m)).end (powered l x (settled c m)).given
    by None = record { none = (h m.store.face).1; never = looked m.store.face }
    by (Some zero) = record { none = refl; never = λ k e. cut_stop k e }
    by (Some (suc k)) = record { none = (h m.store.face).1; never = looked m.store.face }

pub silent_steps : (xs : List Step) (o : Oracle) (m : Machine) → Silent xs → GivesNothing (steps o xs m).end (steps o xs m).given
silent_steps [] o m h = record { none = refl; never = λ k e. done_stop k e }
silent_steps (x ∷ xs) o m h =
    by (step (o 0) x m).end (step (o 0) x m).given (step (o 0) x m).machine (silent_one (o 0) x m h.0) (λ n. silent_steps xs (λ i. o (suc i)) n h.1)
  where
    by : (e : End) (g : List ℕ) (n : Machine) → GivesNothing e g → ((n : Machine) → GivesNothing (steps (λ i. o (suc i)) xs n).end (steps (λ i. o (suc i)) xs n).given) →
        GivesNothing (next e g n (λ k. steps (λ i. o (suc i)) xs k)).end (next e g n (λ k. steps (λ i. o (suc i)) xs k)).given
    by (Ok tt) g n one more = record { none = ap (λ (z : List ℕ). z ++ (steps (λ i. o (suc i)) xs n).given) one.none ∙ (more n).none; never = (more n).never }
    by (Err (Unreadable b)) g n one more = one
    by (Err Cut) g n one more = one

pub silent_writes : (t : Bool) (b : ℕ) (cs : List Content) → Silent (writes t b cs)
unfolding writes
silent_writes t b [] = tt
silent_writes t b (c ∷ cs) = (λ f. (refl, refl), silent_writes t (suc b) cs)

pub silent_join : (xs ys : List Step) → Silent xs → Silent ys → Silent (xs ++ ys)
silent_join [] ys h k = k
silent_join (x ∷ xs) ys h k = (h.0, silent_join xs ys h.1 k)
