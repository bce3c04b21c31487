use Rattle.zk_directory_state.proofs.Searching.{log_searched}
use Rattle.zk_directory_state.proofs.window.Search.take_log.Goals as goal

pub returns : goal.returns
returns c = log_searched c.take_entries.result _ _ c.args.bytes.now _ c.in_ok-file.file c.in_ok-file.ensures c.as_slice.ensures.value c.take_entries.ensures
