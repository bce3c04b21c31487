use Rattle.std.proofs.Common.{◌≡◌, drop}
use Rattle.zk_replay.specs.Drafts.{remove_all}
use Rattle.zk_replay.proofs.draft_nodes.DraftNodes.remove_all.Given as goal

abbrev pub invariant-loop-path : goal.invariant-loop-path
invariant-loop-path l = remove_all l.fn.self l.fn.paths ≡ remove_all l.self (drop l.path-index l.fn.paths)
