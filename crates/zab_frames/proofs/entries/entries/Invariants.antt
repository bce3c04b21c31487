use Rattle.std.proofs.Common.{◌≡◌, pos, drop}
use Rattle.zab_epoch.specs.Entries.{last_zxid}
use Rattle.zk_jute.proofs.Turns.{with_front}
use Rattle.zab_frames.specs.Reading.{entries_at}
use Rattle.zab_frames.proofs.entries.entries.Given as goal

abbrev pub invariant-loop-tag : goal.invariant-loop-tag
invariant-loop-tag l = with_front l.history (entries_at (last_zxid l.history) (drop l.tag-index l.tags) l.input.now) ≡ entries_at (pos 0) l.fn.tags l.fn.input.now
