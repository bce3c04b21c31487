use Rattle.zk_frames.specs.Replies.{stat_zxids_and_times, stat_versions, stat_rest, stat_record}
use Rattle.zk_frames.proofs.Joined.{joined_three}
use Rattle.zk_frames.proofs.field_writers.put_stat.Goals as goal

pub returns : goal.returns
unfolding stat_record
returns c =
    let s = c.args.stat in
    joined_three c.args.out.now.items (stat_zxids_and_times s) (stat_versions s) (stat_rest s) _ _ _ c.in_ok-put_zxids_and_times.ensures c.in_ok-put_versions.ensures c.in_ok-put_stat_rest.ensures
