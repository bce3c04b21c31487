-- The reports so far.
use Rattle.std.proofs.Common.{map, take}
use Rattle.std.specs.String.{string_bytes}
use Rattle.zk_comparison.specs.Several.{AreReports}
use Rattle.zk_comparison.specs.Sources.{named_by}
use Rattle.zk_comparison.proofs.several.reports_of.Given as goal

abbrev pub invariant-loop-second : goal.invariant-loop-second
invariant-loop-second g l =
    let named = named_by g.S.Folder.names_in g.S.Folder.bytes_in g.L.Folder.names_in g.L.Folder.bytes_in in
    AreReports l.form (named l.first) (map named (take l.second-index l.others)) (string_bytes l.all.text) (string_bytes l.all.notices) l.all.differ
