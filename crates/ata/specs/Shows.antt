-- What steps show while power lasts: the faces alone decide it, whatever the drive does with its medium.
use Rattle.std.specs.Prelude.{ℕ, suc, ◌+◌, cond, List, [], ◌∷◌, ◌++◌, length, take, drop, nat_lt, Ok, Err}
use Rattle.ata.specs.Machine.{End}
use Rattle.ata.specs.declared.answer.Stop.TheVariants.{Unreadable, Cut}
use Rattle.ata.specs.Machine.{Content, unreadable, bytes, Step, Look, shown, look}

abbrev pub next_look : End → List ℕ → List Content → (List Content → Look) → Look
next_look (Ok tt) g f rest = record { end = (rest f).end; given = g ++ (rest f).given; face = (rest f).face }
next_look (Err (Unreadable b)) g f rest = record { end = Err (Unreadable b); given = g; face = f }
next_look (Err Cut) g f rest = record { end = (Err Cut); given = g; face = f }

abbrev pub looks : List Step → List Content → Look
looks [] f = shown f
looks (x ∷ xs) f = next_look (look x f).end (look x f).given (look x f).face (λ h. looks xs h)

-- the n blocks from b on
abbrev pub range : ℕ → ℕ → List Content → List Content
range b n f = take n (drop b f)

-- how many of them come before the first that cannot be read, and their bytes
unfoldable pub readable : List Content → ℕ
readable [] = 0
readable (unreadable ∷ cs) = 0
readable (bytes xs ∷ cs) = suc (readable cs)

unfoldable pub content : List Content → List ℕ
content [] = []
content (unreadable ∷ cs) = []
content (bytes xs ∷ cs) = xs ++ content cs

-- blocks put over those from b on
abbrev pub written : ℕ → List Content → List Content → List Content
written b cs f = take b f ++ (cs ++ drop (b + length cs) f)

-- A read gives the blocks up to the first that cannot be read, which it names.
abbrev pub read_end : ℕ → ℕ → ℕ → End
read_end b n k = cond (nat_lt k n) (Err (Unreadable (b + k))) (Ok tt)

abbrev pub read_shows : ℕ → ℕ → List Content → Look
read_shows b n f =
    record { end = read_end b n (readable (range b n f)); given = content (range b n f); face = f }

abbrev pub write_shows : ℕ → List Content → List Content → Look
write_shows b cs f = shown (written b cs f)
