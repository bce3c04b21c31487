-- The logs so far were read.
use Rattle.std.proofs.Common.{take}
use Rattle.zk_verification.specs.Verifications.{AreLoaded}
use Rattle.zk_verification.proofs.files.load_logs.Given as goal

abbrev pub invariant-loop-zxid : goal.invariant-loop-zxid
invariant-loop-zxid g l = AreLoaded (g.F.Folder.bytes_in l.folder) (take l.zxid-index l.logged) l.logs.items
