-- No connection so far.
use Rattle.std.proofs.Common.{◌≡◌, replicate}
use Rattle.zk_local_links.proofs.inbox.Inbox.new.Given as goal

abbrev pub invariant-loop-place : goal.invariant-loop-place
invariant-loop-place l = l.lines.items ≡ replicate l.place 0
