-- The first of the remaining snapshots that is whole is the first of all.
use Rattle.std.proofs.Common.{length}
use Rattle.zk_session_commands.specs.FirstKnown.{KnowsFirst}
use Rattle.zk_session_commands.proofs.base_known.known_of.Given as goal
use Rattle.zk_sessions.specs.declared.known.Known.{Known}

abbrev pub invariant-loop-rest : goal.invariant-loop-rest
invariant-loop-rest g l = (known : Known) → KnowsFirst (g.S.Folder.bytes_in l.snapshots) l.fn.first.zxid l.rest known → KnowsFirst (g.S.Folder.bytes_in l.snapshots) l.fn.first.zxid l.fn.held known

abbrev pub decreases-loop-rest : goal.decreases-loop-rest
decreases-loop-rest g l = length l.rest
