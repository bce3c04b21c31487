use Rattle.std.proofs.Common.{ap, ◌∙◌, ◌++◌}
use Rattle.zk_json_files.proofs.file_lines.lines_of.Goals as goal

pub returns : goal.returns
returns g c =
    let a = c.in_ok-push_snapshots.ensures.lines in
    let b = c.in_ok-push_logs.ensures.lines in
    let u = c.in_ok-push_unread.ensures in
    let read = b.2 ∙ ap (λ l. l ++ b.0) (a.2 ∙ ap (λ l. l ++ a.0) c.new-text.ensures.bytes) in
    (a.0, b.0, u.0, a.1, b.1, u.1, u.2 ∙ ap (λ l. l ++ u.0) read)
