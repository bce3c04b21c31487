-- What the remaining snapshots lead to, after the marks so far, is what all lead to.
use Rattle.zk_verification.proofs.Followed.{AreFollowedTo}
use Rattle.zk_verification.proofs.checking.follow_all.Given as goal

abbrev pub invariant-loop-zxid : goal.invariant-loop-zxid
invariant-loop-zxid g l = AreFollowedTo l.said (g.S.Folder.bytes_in l.snapshots) l.breaks l.logged l.logs l.zxids l.zxid-index l.fn.marks.items l.marks.items l.next
