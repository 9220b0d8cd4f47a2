-- The words that IDENTIFY DEVICE gives of a disk, by what the disk claims.
use Rattle.std.specs.Prelude.{ℕ, ◌/◌, ◌%◌, cond, not, ◌&&◌, List, replicate, slice_set}
use Rattle.disk.specs.declared.words.Claims.{Claims}

-- the 16 bits of a number from a power of two on
abbrev pub part : ℕ → ℕ → ℕ
part n unit = n / unit % 65536

-- The number of blocks stands in words 60 and 61, or with 48-bit commands in words 100 to 103.
abbrev pub short_size : Claims → ℕ
short_size c = cond (not c.wide) c.blocks 0

abbrev pub long_size : Claims → ℕ
long_size c = cond c.wide c.blocks 0

-- 256 words, 0 but for these
abbrev pub laid : ℕ → ℕ → ℕ → ℕ → ℕ → ℕ → ℕ → ℕ → ℕ → List ℕ
laid w60 w61 w82 w83 w84 w100 w101 w102 w103 =
    slice_set (slice_set (slice_set (slice_set (slice_set (slice_set (slice_set (slice_set (slice_set (replicate 256 0) 60 w60) 61 w61) 82 w82) 83 w83) 84 w84) 100 w100) 101 w101) 102 w102) 103 w103

-- Word 82 bit 5 is a cache, word 83 bit 10 the 48-bit commands, word 84 bit 6 the 48-bit write through the cache.
-- Word 83 bit 14 is always set.
unfoldable pub words_for : Claims → List ℕ
words_for c =
    laid (part (short_size c) 1) (part (short_size c) 65536) (cond c.cache 32 0) (cond c.wide 17408 16384)
    (cond (c.wide && c.through) 64 0) (part (long_size c) 1) (part (long_size c) 65536) (part (long_size c) 4294967296)
    (part (long_size c) 281474976710656)
