use Rattle.std.specs.String.{string_bytes}
use Rattle.zk_json.specs.Nodes.{node_of}
use Rattle.zk_json.proofs.ReadBack.{node_depth, finished}
use Rattle.zk_json.proofs.nodes.push_timed_node.Goals as goal

pub returns : goal.returns
returns c =
    let json = node_of c.args.ctime.now c.args.mtime.now c.args.path.now c.args.node.now c.args.stat.now in
    finished c.push_text_line.result json c.in_ok-json.json.writer.tokens c.push_node.new.json.writer.tokens (string_bytes c.args.text.now) (string_bytes c.push_text_line.new.text) (node_depth c.args.ctime.now c.args.mtime.now c.args.path.now c.args.node.now c.args.stat.now) c.in_ok-json.ensures c.in_ok-push_node.ensures c.push_text_line.ensures.read c.push_text_line.ensures.line
