use Rattle.std.proofs.Common.{◌≡◌, ◌+◌, rules, w64, to_z, of_z, Some, None, sym, subst, ap}
use Rattle.std.proofs.lemmas.Int.{to_z-of_z}
use Rattle.std.specs.List.{slice_get}
use Rattle.zk_directory_state.proofs.Starting.{found_start, no_start, none_start}
use Rattle.zk_directory_state.specs.Evidence.{IsStart}
use Rattle.zk_directory_state.proofs.evidence.start_of.Goals as goal

pub returns-in-Some : goal.returns-in-Some
returns-in-Some c =
    let entry = c.in-Some.entry.now in
    let file = c.in_ok-file.file in
    let zxid : to_z w64 (of_z w64 entry.newer.txn.zxid) ≡ entry.newer.txn.zxid = to_z-of_z w64 entry.newer.txn.zxid (search rules) in
    let one : slice_get file.entries.items 0 ≡ Some entry = search rules in
    let log = c.loop-bytes.log in
    subst (λ z. IsStart 0 c.args.logs.now (Some (record { log = log; zxid = z }))) (sym zxid)
    (c.loop-bytes.invariant.so_far (Some (record { log = log; zxid = entry.newer.txn.zxid })) (found_start c.args.logs.now c.loop-bytes.bytes-index log file entry c.loop-bytes-test.true c.in_ok-file.ensures one))

pub loop-bytes-preserved : goal.loop-bytes-preserved
loop-bytes-preserved c =
    let file = c.in_ok-file.file in
    let none : slice_get file.entries.items 0 ≡ None = search rules in
    record {
      counted = ap (λ n. n + 1) c.loop-bytes.invariant.counted;
      so_far = λ start rest. c.loop-bytes.invariant.so_far start (no_start c.args.logs.now c.loop-bytes.bytes-index c.loop-bytes.log file start c.loop-bytes-test.true c.in_ok-file.ensures none rest);
    }

pub returns : goal.returns
returns c = c.loop-bytes.invariant.so_far None (none_start c.args.logs.now c.loop-bytes.bytes-index c.loop-bytes.log c.loop-bytes-test.false)
