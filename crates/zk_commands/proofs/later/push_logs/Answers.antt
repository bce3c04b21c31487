use Rattle.std.proofs.Common.{sym, subst}
use Rattle.zk_commands.proofs.Gathered.{log_fails}
use Rattle.zk_commands.specs.Later.{FailsBy}
use Rattle.zk_commands.proofs.later.push_logs.Goals as goal

pub returns-in-Err : goal.returns-in-Err
returns-in-Err c =
    subst (λ n. FailsBy c.args.logs.now c.args.chain.now n c.in-Err.fault) (sym c.loop-bytes.invariant.counted)
    (log_fails c.args.chain.now c.loop-bytes.chain c.push_log.new.chain c.args.txns.now.items c.loop-bytes.txns.items c.push_log.new.txns.items c.args.logs.now c.loop-bytes.bytes-index c.in-Err.fault c.loop-bytes-test.true c.loop-bytes.invariant.gathered c.in-Err.ensures.txns)
