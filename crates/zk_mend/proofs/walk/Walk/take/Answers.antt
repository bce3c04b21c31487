use Rattle.std.proofs.Common.{◌≡◌, ◌≢◌, rules}
use Rattle.zk_records.specs.Checksum.{adler_of}
use Rattle.zk_mend.proofs.Refusals.{checksum_refused, unread_refused, reasonless_refused, refuses_answer, is_at_still}
use Rattle.zk_mend.proofs.walk.Walk.take.Goals as goal

pub returns-then-from-sum-clause-err : goal.returns-then-from-sum-clause-err
returns-then-from-sum-clause-err c = λ place h.
    let other : c.args.sum ≢ adler_of c.args.bytes.now = search rules in
    checksum_refused place c.args.bytes.now c.args.sum c.args.self.now.at h.at other

pub returns-in-Ok-clause-err : goal.returns-in-Ok-clause-err
returns-in-Ok-clause-err c = λ place h.
    let same : c.args.sum ≡ adler_of c.args.bytes.now = search rules in
    refuses_answer place c.args.bytes.now c.args.sum c.in-Ok.newer c.take_newer.result same c.in-Ok.ensures.found.written (c.take_newer.ensures.err place (is_at_still c.args.self.now c.read_newer.new.earlier place h))

pub returns-in-Err-Record-clause-err : goal.returns-in-Err-Record-clause-err
returns-in-Err-Record-clause-err c = λ place h.
    let same : c.args.sum ≡ adler_of c.args.bytes.now = search rules in
    unread_refused place c.args.bytes.now c.args.sum c.args.self.now.at h.at same (c.read_newer.ensures.none (search rules))

pub returns-in-Err-Reasonless-clause-err : goal.returns-in-Err-Reasonless-clause-err
returns-in-Err-Reasonless-clause-err c = λ place h.
    let same : c.args.sum ≡ adler_of c.args.bytes.now = search rules in
    let r = c.read_newer.ensures.refused (search rules) in
    reasonless_refused place c.args.bytes.now c.args.sum c.args.self.now.at r.0 h.at same r.1 r.2
