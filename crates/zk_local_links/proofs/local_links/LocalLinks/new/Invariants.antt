-- No connection so far.
use Rattle.std.proofs.Common.{◌≡◌, replicate}
use Rattle.zk_local_links.specs.Inboxes.{new_inbox}
use Rattle.zk_local_links.proofs.local_links.LocalLinks.new.Given as goal

abbrev pub invariant-loop-place : goal.invariant-loop-place
invariant-loop-place l = l.inboxes.items ≡ replicate l.place (new_inbox l.servers)
