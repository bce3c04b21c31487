use Rattle.std.proofs.Common.{List, map, ap, ◌∙◌}
use Rattle.zk_tree_changes.specs.Changes.{followed_all}
use Rattle.zk_tree_changes.proofs.Following.{next_log}
use Rattle.zk_directory.specs.declared.file.FileEntry.{FileEntry}
use Rattle.zk_tree_changes.proofs.logged.follow_logs.Goals as goal

pub loop-bytes-preserved : goal.loop-bytes-preserved
loop-bytes-preserved c = λ new more.
    c.loop-bytes.invariant new
    (next_log c.args.logs.now c.loop-bytes.bytes-index _ c.in_ok-file.file c.loop-bytes.changes c.follow_entries.new.changes new c.loop-bytes-test.true c.in_ok-file.ensures
    (c.in_ok-follow_entries.ensures ∙ ap (λ (entries : List FileEntry). followed_all c.loop-bytes.changes (map (λ (entry : FileEntry). entry.newer) entries)) c.as_slice.ensures.value)
    more)
