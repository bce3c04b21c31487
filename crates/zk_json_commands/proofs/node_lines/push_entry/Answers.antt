use Rattle.std.proofs.Common.{◌≡◌, rules, subst}
use Rattle.std.proofs.lemmas.Result.{on_ok_weaker}
use Rattle.std.specs.String.{string_bytes}
use Rattle.zk_acl.specs.declared.stat.Stat.{Stat}
use Rattle.zk_json.specs.Nodes.{AppendsNodeLine}
use Rattle.zk_table.specs.Nodes.{stat_with}
use Rattle.zk_json_commands.proofs.node_lines.push_entry.Goals as goal

pub returns : goal.returns
returns c =
    let entry = c.args.entry.now in
    let is : c.stat-stat.result ≡ stat_with entry.node.now entry.child_count = search rules in
    on_ok_weaker c.push_node_line.result (λ h. subst (λ (stat : Stat). AppendsNodeLine entry.path.now entry.node.now stat (string_bytes c.args.text.now) (string_bytes c.push_node_line.new.text)) is h) c.push_node_line.ensures
