use Rattle.std.proofs.Common.{◌≡◌, ◌++◌, map, drop}
use Rattle.zk_path.specs.Paths.{name_of}
use Rattle.zk_table.proofs.names.Names.of.Given as goal

abbrev pub invariant-loop-path : goal.invariant-loop-path
invariant-loop-path l = l.texts.items ++ map name_of (drop l.path-index l.paths) ≡ map name_of l.paths
