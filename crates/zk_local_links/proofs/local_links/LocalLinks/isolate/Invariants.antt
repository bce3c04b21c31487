-- The connections with the servers so far have ended.
use Rattle.std.proofs.Common.{◌≡◌, length}
use Rattle.zk_local_links.specs.LocalLinks.{apart_from, local}
use Rattle.zk_local_links.proofs.local_links.LocalLinks.isolate.Given as goal

abbrev pub invariant-loop-other : goal.invariant-loop-other
invariant-loop-other l = l.self ≡ apart_from l.other l.place l.fn.self
