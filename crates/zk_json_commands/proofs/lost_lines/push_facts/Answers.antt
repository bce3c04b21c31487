use Rattle.std.proofs.Common.{rules}
use Rattle.std.specs.String.{string_bytes}
use Rattle.zk_json_commands.proofs.LostLines.{facts_told}
use Rattle.zk_json_commands.proofs.lost_lines.push_facts.Goals as goal

pub returns : goal.returns
returns c =
    facts_told c.push_record.result c.args.zxid c.args.facts.now (string_bytes c.args.text.now) (string_bytes c.push_record.new.text) _ _ _ _ _ _
    c.in_ok-time.ensures c.as_str.ensures.value c.push_record.ensures (search rules) (search rules) (search rules) (search rules)
