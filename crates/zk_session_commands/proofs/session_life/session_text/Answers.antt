use Rattle.std.proofs.Common.{rules}
use Rattle.std.specs.String.{string_bytes}
use Rattle.zk_session_commands.proofs.Lived.{text_found}
use Rattle.zk_session_commands.proofs.session_life.session_text.Goals as goal

pub returns : goal.returns
returns c =
    text_found c.args.asked.form c.args.asked.session c.args.life c.in-Some.life _ c.args.lines.now (string_bytes c.new-text.result) (string_bytes c.push_formed_row.new.text) (string_bytes c.push_str.new.self) c.in-Some.is c.new-text.ensures.bytes c.in_ok-push_formed_row.ensures (search rules) (search rules)
