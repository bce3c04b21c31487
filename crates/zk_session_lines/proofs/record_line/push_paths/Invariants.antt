-- The paths so far, and the remaining ones.
use Rattle.std.proofs.Common.{◌≡◌, ◌++◌, drop, map}
use Rattle.std.specs.List.{flat_map}
use Rattle.std.specs.String.{string_bytes}
use Rattle.zk_session_lines.specs.RecordLines.{path_text}
use Rattle.zk_session_lines.proofs.record_line.push_paths.Given as goal

abbrev pub invariant-loop-path : goal.invariant-loop-path
invariant-loop-path l = string_bytes l.text ++ flat_map path_text (map (λ path. path.now) (drop l.path-index l.fn.paths)) ≡ string_bytes l.fn.text ++ flat_map path_text (map (λ path. path.now) l.fn.paths)
