use Rattle.std.proofs.Common.{ℕ, List, w64, map, rules}
use Rattle.std.proofs.lemmas.Int.{to_z-of_z}
use Rattle.std.specs.Borrow.{Bor}
use Rattle.std.specs.String.{string_bytes}
use Rattle.zk_session_lines.proofs.Rowed.{record_from}
use Rattle.zk_session_lines.proofs.record_line.push_record_line.Goals as goal

pub returns : goal.returns
returns c =
    let txn = c.args.txn.now in
    record_from c.push_rest.result (map (λ (path : Bor (List ℕ)). path.now) c.args.paths.now) c.args.kind.now c.args.expired txn (string_bytes c.args.text.now) (string_bytes c.push_time.new.text) (string_bytes c.push_next_id.new.text) (string_bytes c.push_word.new.text) (string_bytes c.push_next_id-2.new.text) (string_bytes c.push_rest.new.text) _ _ _
    (to_z-of_z w64 txn.time (search rules)) (to_z-of_z w64 txn.zxid (search rules)) (to_z-of_z w64 txn.session (search rules))
    c.in_ok-push_time.ensures c.in_ok-push_next_id.ensures c.in_ok-push_word.ensures c.in_ok-push_next_id-2.ensures c.push_rest.ensures
