use Rattle.std.proofs.Common.{◌≡◌, drop}
use Rattle.zk_replay.specs.Rules.{delete_all}
use Rattle.zk_replay.proofs.rules.delete_all.Given as goal

abbrev pub invariant-loop-path : goal.invariant-loop-path
invariant-loop-path l = delete_all l.fn.drafts l.fn.zxid l.fn.paths ≡ delete_all l.drafts l.fn.zxid (drop l.path-index l.fn.paths)
