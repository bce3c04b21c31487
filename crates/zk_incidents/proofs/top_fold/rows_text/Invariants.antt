-- The rows so far, and the remaining ones.
use Rattle.std.proofs.Common.{◌≡◌, ◌++◌, drop, map}
use Rattle.std.specs.List.{flat_map}
use Rattle.std.specs.String.{string_bytes}
use Rattle.zk_incidents.specs.Tops.{row_text}
use Rattle.zk_incidents.proofs.top_fold.rows_text.Given as goal

abbrev pub invariant-loop-shown : goal.invariant-loop-shown
invariant-loop-shown l = string_bytes l.text ++ flat_map (row_text l.fn.key) (map (λ row. (row.0.now, row.1)) (drop l.shown-index l.fn.rows)) ≡ flat_map (row_text l.fn.key) (map (λ row. (row.0.now, row.1)) l.fn.rows)
