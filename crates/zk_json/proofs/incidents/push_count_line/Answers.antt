use Rattle.std.specs.String.{string_bytes}
use Rattle.zk_json.specs.Incidents.{count_of}
use Rattle.zk_json.proofs.ReadBack.{count_depth, finished}
use Rattle.zk_json.proofs.incidents.push_count_line.Goals as goal

pub returns : goal.returns
returns c =
    let json = count_of c.args.name.now c.args.counted.now c.args.count in
    finished c.push_text_line.result json c.in_ok-json.json.writer.tokens c.push_count.new.json.writer.tokens (string_bytes c.args.text.now) (string_bytes c.push_text_line.new.text) (count_depth c.args.name.now c.args.counted.now c.args.count) c.in_ok-json.ensures c.in_ok-push_count.ensures c.push_text_line.ensures.read c.push_text_line.ensures.line
