use Rattle.std.proofs.Common.{◌≡◌, take}
use Rattle.zk_client_session.proofs.tree_reads.names_of.Given as goal

abbrev pub invariant-loop-path : goal.invariant-loop-path
invariant-loop-path l = l.names.items ≡ take l.path-index l.paths
