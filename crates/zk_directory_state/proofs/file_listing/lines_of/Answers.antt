use Rattle.std.proofs.Common.{ap, ◌∙◌, ◌++◌}
use Rattle.zk_directory_state.specs.Files.{unread_lines}
use Rattle.zk_directory_state.proofs.file_listing.lines_of.Goals as goal

pub returns : goal.returns
returns g c =
    let a = c.in_ok-push_snapshots.ensures.lines in
    let b = c.in_ok-push_logs.ensures.lines in
    let unread = unread_lines c.args.snapshot_names.now c.args.log_names.now in
    let read = b.2 ∙ ap (λ l. l ++ b.0) (a.2 ∙ ap (λ l. l ++ a.0) c.new-text.ensures.bytes) in
    (a.0, b.0, a.1, b.1, c.in_ok-push_unread.ensures ∙ ap (λ l. l ++ unread) read)
