use Rattle.std.proofs.Common.{rules}
use Rattle.std.specs.String.{string_bytes}
use Rattle.zk_session_lines.proofs.Lifed.{as_entry}
use Rattle.zk_session_lines.proofs.rows.push_entry.Goals as goal

pub returns : goal.returns
returns c = as_entry c.push_formed_row.result c.args.form c.args.entry.now _ _ (string_bytes c.args.text.now) (string_bytes c.push_formed_row.new.text) c.push_formed_row.ensures (search rules) (search rules)
