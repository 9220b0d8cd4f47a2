-- A drive behind a port.
use Rattle.std.specs.Prelude.{ℕ, min, max}
use Rattle.ata.specs.declared.task.AtaCommand.{AtaCommand}
use Rattle.ata.specs.declared.task.AtaCommand.TheVariants.{IdentifyDevice, ReadDma, ReadDmaExt, WriteDma, WriteDmaExt, WriteDmaFuaExt, ReadVerify, ReadVerifyExt, FlushCache, FlushCacheExt, SetFeatures, StandbyImmediate, CheckPowerMode, Unlisted}
use Rattle.ata.specs.Commands.{State, named}

-- the same drive, which takes at most k blocks at once
abbrev pub limited : ℕ → State → State
limited k s = record { words = s.words; most = min s.most k; orders = s.orders; machine = s.machine }

-- the limit that a port is given, brought into 1 to 65,536
abbrev pub brought_in : ℕ → ℕ
brought_in n = min (max n 1) 65536

-- how many blocks a command names: none where it moves none
abbrev pub names : AtaCommand → ℕ → ℕ
names IdentifyDevice c = 0
names ReadDma c = named 256 c
names ReadDmaExt c = named 65536 c
names WriteDma c = named 256 c
names WriteDmaExt c = named 65536 c
names WriteDmaFuaExt c = named 65536 c
names ReadVerify c = named 256 c
names ReadVerifyExt c = named 65536 c
names FlushCache c = 0
names FlushCacheExt c = 0
names SetFeatures c = 0
names StandbyImmediate c = 0
names CheckPowerMode c = 0
names Unlisted c = 0
