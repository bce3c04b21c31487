use Rattle.std.proofs.Common.{◌≡◌, ◌+◌, Bool, false, rules, ap, subst}
use Rattle.std.specs.Prelude.{not}
use Rattle.zk_directory_state.proofs.TakenFiles.{last_read, next_broken, next_read}
use Rattle.zk_directory_state.specs.Directories.{AreRead}
use Rattle.zk_directory_state.proofs.restored_directory.read_logs.Goals as goal

pub returns-in-Err : goal.returns-in-Err
returns-in-Err c =
    let so_far = c.loop-bytes.invariant in
    next_broken c.args.start c.loop-bytes.restore c.args.logs.now c.loop-bytes.read c.loop-bytes.bytes-index c.in-Err.fault c.loop-bytes.ending so_far.counted c.loop-bytes-test.true so_far.so_far c.in-Err.ensures

pub returns-then-not-goes_on : goal.returns-then-not-goes_on
returns-then-not-goes_on c =
    let so_far = c.loop-bytes.invariant in
    let over : c.in-Ok.step.goes_on ≡ false = search rules in
    last_read c.args.start c.loop-bytes.restore c.args.logs.now c.loop-bytes.read c.loop-bytes.bytes-index c.in-Ok.step c.loop-bytes.ending so_far.counted c.loop-bytes-test.true so_far.so_far c.in-Ok.ensures over

pub loop-bytes-preserved : goal.loop-bytes-preserved
loop-bytes-preserved c =
    let so_far = c.loop-bytes.invariant in
    let step = c.in-Ok.step in
    let goes_on : not step.goes_on ≡ false = search rules in
    record {
      counted = ap (λ n. n + 1) so_far.counted;
      so_far =
          subst (λ (b : Bool). AreRead c.args.start c.args.logs.now (c.loop-bytes.read + 1) step.restore b step.ending) goes_on
          (next_read c.args.start c.loop-bytes.restore c.args.logs.now c.loop-bytes.read c.loop-bytes.bytes-index step c.loop-bytes.ending so_far.counted c.loop-bytes-test.true so_far.so_far c.in-Ok.ensures);
    }
