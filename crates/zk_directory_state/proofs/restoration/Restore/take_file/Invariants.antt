-- The entries so far were read.
use Rattle.zk_directory_state.proofs.Joined.{IsWithin}
use Rattle.zk_directory_state.proofs.restoration.Restore.take_file.Given as goal

abbrev pub invariant-loop-entry : goal.invariant-loop-entry
invariant-loop-entry l = IsWithin l.fn.self l.fn.file l.entry-index l.restore
