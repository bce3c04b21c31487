use Rattle.std.proofs.Common.{◌≡◌, drop}
use Rattle.std.specs.FinMap as finite
use Rattle.zk_replay.specs.Bases.{drafted, drafted_fault}
use Rattle.zk_replay.proofs.draft.drafted.Given as goal

abbrev pub invariant-loop-one : goal.invariant-loop-one
invariant-loop-one l = (drafted l.fn.accesses finite.empty l.fn.stored ≡ drafted l.fn.accesses l.drafts (drop l.one-index l.fn.stored)) × (drafted_fault l.fn.accesses finite.empty l.fn.stored ≡ drafted_fault l.fn.accesses l.drafts (drop l.one-index l.fn.stored))
