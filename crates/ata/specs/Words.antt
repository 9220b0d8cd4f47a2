-- The 256 words that IDENTIFY DEVICE gives, and what they claim.
use Rattle.std.specs.Prelude.{ℕ, ◌+◌, ◌*◌, Bool, cond, not, List, ◌==◌, bit_and, slice_index, slice_set}

abbrev pub word : List ℕ → ℕ → ℕ
word ws i = slice_index ws i

-- the bit of value v in the word i
abbrev pub claims : List ℕ → ℕ → ℕ → Bool
claims ws i v = not (bit_and (word ws i) v == 0)

-- word 83 bit 10: 48-bit commands
abbrev pub wide : List ℕ → Bool
wide ws = claims ws 83 1024

-- word 82 bit 5: a cache
abbrev pub cached : List ℕ → Bool
cached ws = claims ws 82 32

-- word 84 bit 6: the command that writes through the cache
abbrev pub through : List ℕ → Bool
through ws = claims ws 84 64

-- the number of blocks, the low word first: words 100 to 103 with 48-bit commands, else words 60 and 61
abbrev pub blocks_of : List ℕ → ℕ
blocks_of ws =
    cond (wide ws)
    (word ws 100 + 65536 * word ws 101 + 4294967296 * word ws 102 + 281474976710656 * word ws 103)
    (word ws 60 + 65536 * word ws 61)

-- the most blocks that the count of a command can name
abbrev pub count_limit : Bool → ℕ
count_limit w = cond w 65536 256

-- Word 85 bit 5 alone moves: it shows whether the cache is on. The rest never does, and has 0 there.
abbrev pub showing : Bool → List ℕ → List ℕ
showing on ws = slice_set ws 85 (word ws 85 + cond on 32 0)
