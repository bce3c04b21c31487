-- The lines so far, followed by those of the other logs, are all.
use Rattle.std.specs.String.{string_bytes}
use Rattle.zk_json_files.proofs.Lines.{LogsSoFar}
use Rattle.zk_json_files.proofs.file_lines.push_logs.Given as goal

abbrev pub invariant-loop-zxid : goal.invariant-loop-zxid
invariant-loop-zxid g l = LogsSoFar (g.F.Folder.bytes_in l.folder) l.zxids l.zxid-index l.last (string_bytes l.fn.text) (string_bytes l.text)
