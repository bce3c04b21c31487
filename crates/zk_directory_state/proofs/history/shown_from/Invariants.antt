-- The snapshots so far do not serve: the first of the others that serves is the first of all.
use Rattle.zk_directory_state.proofs.Chosen.{IsPassedTo}
use Rattle.zk_directory_state.proofs.history.shown_from.Given as goal

abbrev pub invariant-loop-zxid : goal.invariant-loop-zxid
invariant-loop-zxid g l =
    IsPassedTo (record { snapshot_bytes = g.S.Folder.bytes_in l.snapshots; log_bytes = g.L.Folder.bytes_in l.logs; held = l.held; logged = l.logged; upto = l.upto }) l.begun l.zxid-index l.over
