use Rattle.std.proofs.Common.{map}
use Rattle.std.specs.String.{string_bytes}
use Rattle.zk_json.specs.Incidents.{history_of}
use Rattle.zk_json.proofs.ReadBack.{history_depth, finished}
use Rattle.zk_json.proofs.incidents.push_timed_history.Goals as goal

pub returns : goal.returns
returns c =
    let json = history_of c.args.time.now (map (λ path. path.now) c.args.paths.now) c.args.kind.now c.args.expired c.args.txn.now in
    finished c.push_text_line.result json c.in_ok-json.json.writer.tokens c.push_history.new.json.writer.tokens (string_bytes c.args.text.now) (string_bytes c.push_text_line.new.text) (history_depth c.args.time.now (map (λ path. path.now) c.args.paths.now) c.args.kind.now c.args.expired c.args.txn.now) c.in_ok-json.ensures c.in_ok-push_history.ensures c.push_text_line.ensures.read c.push_text_line.ensures.line
