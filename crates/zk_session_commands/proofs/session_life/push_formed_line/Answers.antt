use Rattle.std.proofs.Common.{List, ℕ, map, w32, to_z, of_z, rules}
use Rattle.std.proofs.lemmas.Int.{to_z-of_z}
use Rattle.std.specs.Borrow.{Bor}
use Rattle.std.specs.String.{string_bytes}
use Rattle.zk_session_commands.proofs.Lived.{as_record}
use Rattle.zk_session_commands.proofs.session_life.push_formed_line.Goals as goal

pub returns : goal.returns
returns c =
    let newer = c.args.newer.now in
    let cxid = to_z w32 (of_z w32 newer.txn.cxid) in
    as_record c.push_line.result c.args.form (map (λ (path : Bor (List ℕ)). path.now) c.args.paths.now) newer c.op_word-kind.result.now c.is_expiry.result cxid (string_bytes c.args.text.now) (string_bytes c.push_line.new.text)
    c.op_word-kind.ensures (to_z-of_z w32 newer.txn.cxid (search rules)) c.is_expiry.ensures c.push_line.ensures
