-- The names so far that are at most base + 1.
use Rattle.std.proofs.Common.{◌≡◌, ◌≤◌, take}
use Rattle.std.specs.List.{count_by}
use Rattle.zk_directory.specs.Orders.{may_hold_next}
use Rattle.zk_directory.proofs.order.first_log.Given as goal

abbrev pub invariant-loop-zxid : goal.invariant-loop-zxid
invariant-loop-zxid l = (l.earlier ≡ count_by (may_hold_next l.base) (take l.zxid-index l.zxids)) × (l.earlier ≤ l.zxid-index)
