use Rattle.std.proofs.Common.{◌≡◌, drop}
use Rattle.zk_replay.specs.Bases.{latest_of}
use Rattle.zk_replay.proofs.exact.latest_of.Given as goal

abbrev pub invariant-loop-one : goal.invariant-loop-one
invariant-loop-one l = latest_of l.fn.zxid l.fn.stored ≡ latest_of l.latest (drop l.one-index l.fn.stored)
