use Rattle.std.proofs.Common.{rules}
use Rattle.disk.proofs.Decoded.{wide_for, cached_for, through_for}
use Rattle.disk.proofs.order.order_of.Goals as goal

pub returns-in-ReadDmaExt : goal.returns-in-ReadDmaExt
returns-in-ReadDmaExt c = let w = wide_for c.args.claims in search rules

pub returns-in-WriteDmaExt : goal.returns-in-WriteDmaExt
returns-in-WriteDmaExt c = let w = wide_for c.args.claims in search rules

pub returns-in-WriteDmaFuaExt : goal.returns-in-WriteDmaFuaExt
returns-in-WriteDmaFuaExt c = let w = through_for c.args.claims in search rules

pub returns-in-ReadVerifyExt : goal.returns-in-ReadVerifyExt
returns-in-ReadVerifyExt c = let w = wide_for c.args.claims in search rules

pub returns-in-FlushCacheExt : goal.returns-in-FlushCacheExt
returns-in-FlushCacheExt c = let w = wide_for c.args.claims in search rules

pub returns-in-SetFeatures : goal.returns-in-SetFeatures
returns-in-SetFeatures c = let w = cached_for c.args.claims in search rules
