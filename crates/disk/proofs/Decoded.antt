-- The words of a disk say what it claims.
use Rattle.std.proofs.Common.{◌≡◌, ℕ, ◌+◌, ◌*◌, ◌^◌, ◌<◌, Bool, true, false, cond, not, ◌&&◌, eqb, List, length, sym, refl, ap, ◌∙◌, arith}
use lib.Bits.{bit_and}
use Rattle.ata.specs.Words.{word, wide, cached, through, blocks_of}
use Rattle.disk.specs.declared.words.Claims.{Claims}
use Rattle.ata.specs.declared.task.AtaCommand.{AtaCommand}
use Rattle.ata.specs.declared.task.AtaCommand.TheVariants.{IdentifyDevice, ReadDma, ReadDmaExt, WriteDma, WriteDmaExt, WriteDmaFuaExt, ReadVerify, ReadVerifyExt, FlushCache, FlushCacheExt, SetFeatures, StandbyImmediate, CheckPowerMode, Unlisted}
use Rattle.ata.specs.declared.task.Feature.{Feature}
use Rattle.ata.specs.Commands.{Order, named, taken, switched_by, read, verify, write, flush, unknown}
use Rattle.disk.specs.Claimed.{part, words_for}
use Rattle.disk.specs.Orders.{switches}

pub words_long : (c : Claims) → length (words_for c) ≡ 256
unfolding words_for
words_long c = refl

flag_of : (v : Bool) → not (eqb (bit_and (cond v 17408 16384) 1024) 0) ≡ v
flag_of true = refl
flag_of false = refl

pub wide_for : (c : Claims) → wide (words_for c) ≡ c.wide
unfolding words_for
wide_for c = flag_of c.wide

cache_of : (v : Bool) → not (eqb (bit_and (cond v 32 0) 32) 0) ≡ v
cache_of true = refl
cache_of false = refl

pub cached_for : (c : Claims) → cached (words_for c) ≡ c.cache
unfolding words_for
cached_for c = cache_of c.cache

through_of : (v : Bool) → not (eqb (bit_and (cond v 64 0) 64) 0) ≡ v
through_of true = refl
through_of false = refl

pub through_for : (c : Claims) → through (words_for c) ≡ (c.wide && c.through)
unfolding words_for
through_for c = through_of (c.wide && c.through)

-- word 85 shows no cache, and is as it is with the cache off
pub cache_off_for : (c : Claims) → bit_and (word (words_for c) 85) 32 ≡ 0
unfolding words_for
cache_off_for c = refl

short_parts : (n : ℕ) → n < 2 ^ 28 → part n 1 + 65536 * part n 65536 ≡ n
short_parts n h = omega arith

long_parts : (n : ℕ) → n < 2 ^ 28 → part n 1 + 65536 * part n 65536 + 4294967296 * part n 4294967296 + 281474976710656 * part n 281474976710656 ≡ n
long_parts n h = omega arith

pub blocks_for : (c : Claims) → c.blocks < 2 ^ 28 → blocks_of (words_for c) ≡ c.blocks
unfolding words_for
blocks_for c h =
    ap (λ (v : Bool). cond v (word (words_for c) 100 + 65536 * word (words_for c) 101 + 4294967296 * word (words_for c) 102 + 281474976710656 * word (words_for c) 103) (word (words_for c) 60 + 65536 * word (words_for c) 61)) (wide_for c)
    ∙ by c.wide
  where
    by : (v : Bool) → cond v (part (cond v c.blocks 0) 1 + 65536 * part (cond v c.blocks 0) 65536 + 4294967296 * part (cond v c.blocks 0) 4294967296 + 281474976710656 * part (cond v c.blocks 0) 281474976710656) (part (cond (not v) c.blocks 0) 1 + 65536 * part (cond (not v) c.blocks 0) 65536) ≡ c.blocks
    by true = long_parts c.blocks h
    by false = short_parts c.blocks h

neither : (v : Bool) (x : Order) → switches x ≡ false → switches (cond v x unknown) ≡ false
neither true x h = h
neither false x h = refl

-- A disk with no cache never switches one.
pub never_switches : (ws : List ℕ) → cached ws ≡ false → (c : AtaCommand) (f : Feature) (n : ℕ) → switches (taken ws c f n) ≡ false
never_switches ws h IdentifyDevice f n = refl
never_switches ws h ReadDma f n = refl
never_switches ws h ReadDmaExt f n = neither (wide ws) (read (named 65536 n)) refl
never_switches ws h WriteDma f n = refl
never_switches ws h WriteDmaExt f n = neither (wide ws) (write false (named 65536 n)) refl
never_switches ws h WriteDmaFuaExt f n = neither (through ws) (write true (named 65536 n)) refl
never_switches ws h ReadVerify f n = refl
never_switches ws h ReadVerifyExt f n = neither (wide ws) (verify (named 65536 n)) refl
never_switches ws h FlushCache f n = refl
never_switches ws h FlushCacheExt f n = neither (wide ws) flush refl
never_switches ws h SetFeatures f n = ap (λ (v : Bool). switches (cond v (switched_by f) unknown)) h
never_switches ws h StandbyImmediate f n = refl
never_switches ws h CheckPowerMode f n = refl
never_switches ws h Unlisted f n = refl

-- A disk that switches one claims it.
pub switching_claims : (k : Claims) (c : AtaCommand) (f : Feature) (n : ℕ) → switches (taken (words_for k) c f n) ≡ true → k.cache ≡ true
switching_claims k c f n h = by k.cache (cached_for k)
  where
    by : (v : Bool) → cached (words_for k) ≡ v → v ≡ true
    by true e = refl
    by false e = sym (never_switches (words_for k) e c f n) ∙ h
