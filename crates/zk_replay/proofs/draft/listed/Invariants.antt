use Rattle.std.proofs.Common.{◌≡◌, drop}
use Rattle.zk_replay.specs.Bases.{listed}
use Rattle.zk_replay.proofs.draft.listed.Given as goal

abbrev pub invariant-loop-access : goal.invariant-loop-access
invariant-loop-access l = listed l.fn.accesses l.fn.number ≡ listed (drop l.access-index l.fn.accesses) l.fn.number
