-- The lines so far, followed by those of the other snapshots, are all.
use Rattle.std.specs.String.{string_bytes}
use Rattle.zk_json_files.proofs.Lines.{SnapshotsSoFar}
use Rattle.zk_json_files.proofs.file_lines.push_snapshots.Given as goal

abbrev pub invariant-loop-zxid : goal.invariant-loop-zxid
invariant-loop-zxid g l = SnapshotsSoFar (g.F.Folder.bytes_in l.folder) l.zxids l.zxid-index (string_bytes l.fn.text) (string_bytes l.text)
