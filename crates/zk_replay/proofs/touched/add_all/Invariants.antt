use Rattle.std.proofs.Common.{◌≡◌, drop}
use Rattle.zk_replay.specs.Touching.{with_all}
use Rattle.zk_replay.proofs.touched.add_all.Given as goal

abbrev pub invariant-loop-path : goal.invariant-loop-path
invariant-loop-path l = with_all l.paths (drop l.path-index l.fn.more) ≡ with_all l.fn.paths l.fn.more
