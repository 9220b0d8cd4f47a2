-- The task files that a translator sends.
use Rattle.std.specs.Prelude.{ℕ, ◌%◌, min, max, Bool, true, false}
use Rattle.ata.specs.declared.task.TaskFile.{TaskFile}
use Rattle.ata.specs.declared.task.AtaCommand.{AtaCommand}
use Rattle.ata.specs.declared.task.AtaCommand.TheVariants.{ReadDma, ReadDmaExt, WriteDma, WriteDmaExt, WriteDmaFuaExt, FlushCache, FlushCacheExt}
use Rattle.ata.specs.declared.task.Feature.TheVariants.{Absent}
use Rattle.transfer.specs.declared.tasks.Width.{Width}
use Rattle.transfer.specs.declared.tasks.Width.TheVariants.{Bits28, Bits48}

-- 48-bit commands are used where they are claimed
abbrev pub width_of : Bool → Width
width_of true = Bits48
width_of false = Bits28

-- of a pair, the one for a width
abbrev pub by_width : {A : Type 0} → Width → A → A → A
by_width Bits28 x y = x
by_width Bits48 x y = y

-- how many blocks the count of a command can name
abbrev pub limit : Width → ℕ
limit Bits28 = 256
limit Bits48 = 65536

abbrev pub task : AtaCommand → ℕ → ℕ → TaskFile
task c n b = record { command = c; feature = Absent; count = n; block = b }

-- the largest count is written as 0
abbrev pub transfer_task : Width → AtaCommand → ℕ → ℕ → TaskFile
transfer_task w c b n = task c (n % limit w) b

abbrev pub read_command : Width → AtaCommand
read_command Bits28 = ReadDma
read_command Bits48 = ReadDmaExt

-- a write that goes through the cache has one command, of 48 bits
abbrev pub write_command : Width → Bool → AtaCommand
write_command w true = WriteDmaFuaExt
write_command Bits28 false = WriteDma
write_command Bits48 false = WriteDmaExt

abbrev pub flush_command : Width → AtaCommand
flush_command Bits28 = FlushCache
flush_command Bits48 = FlushCacheExt

abbrev pub read_task : Width → ℕ → ℕ → TaskFile
read_task w b n = transfer_task w (read_command w) b n

abbrev pub write_task : Width → Bool → ℕ → ℕ → TaskFile
write_task w through b n = transfer_task w (write_command w through) b n

abbrev pub flush_task : Width → TaskFile
flush_task w = task (flush_command w) 0 0

-- how many blocks go in a piece, to a drive that takes `most`
abbrev pub piece : Width → ℕ → ℕ
piece w most = min (max most 1) (limit w)
