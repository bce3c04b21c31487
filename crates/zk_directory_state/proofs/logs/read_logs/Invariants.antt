-- The logs so far were read.
use Rattle.std.proofs.Common.{map, take}
use Rattle.zk_directory_state.specs.Logs.{AreGiven, items_of}
use Rattle.zk_directory_state.proofs.logs.read_logs.Given as goal

abbrev pub invariant-loop-zxid : goal.invariant-loop-zxid
invariant-loop-zxid g l = AreGiven (g.F.Folder.bytes_in l.folder) (take l.zxid-index l.logged) (map items_of l.loaded.items)
