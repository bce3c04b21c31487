use Rattle.std.proofs.Common.{List, ℕ, map, w32, to_z, of_z, rules}
use Rattle.std.proofs.lemmas.Int.{to_z-of_z}
use Rattle.std.proofs.lemmas.Result.{on_ok_weaker}
use Rattle.std.specs.Borrow.{Bor}
use Rattle.std.specs.String.{string_bytes}
use Rattle.zk_json_commands.proofs.Finished.{as_record}
use Rattle.zk_json_commands.proofs.history_lines.push_some.Goals as goal

pub returns : goal.returns
returns c =
    let newer = c.args.newer.now in
    let cxid = to_z w32 (of_z w32 newer.txn.cxid) in
    on_ok_weaker c.push_history_line.result
    (as_record (map (λ (path : Bor (List ℕ)). path.now) c.args.paths.now) newer c.op_word-kind.result.now c.is_expiry.result cxid (string_bytes c.args.text.now) (string_bytes c.push_history_line.new.text)
    c.op_word-kind.ensures (to_z-of_z w32 newer.txn.cxid (search rules)) c.is_expiry.ensures)
    c.push_history_line.ensures
