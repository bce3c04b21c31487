-- The files so far, and those of the other names.
use Rattle.std.proofs.Common.{◌≡◌, [], drop}
use Rattle.zk_directory_state.specs.ServerFiles.{with_files}
use Rattle.zk_directory_state.proofs.server_names.server_files.Given as goal

abbrev pub invariant-loop-name : goal.invariant-loop-name
invariant-loop-name l = with_files l.files.items (drop l.name-index l.names) ≡ with_files [] l.fn.names
