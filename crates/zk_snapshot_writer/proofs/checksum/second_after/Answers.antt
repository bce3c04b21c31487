use Rattle.std.proofs.Common.{◌∙◌, ◌+◌, ◌-◌, ◌*◌, ◌%◌, ap}
use Rattle.std.specs.Prelude.{ℕ}
use Rattle.zk_snapshot_writer.proofs.Sums.{second_after}
use Rattle.zk_snapshot_writer.proofs.checksum.second_after.Goals as goal

pub returns : goal.returns
returns c bytes len comes =
    rw (c.from.ensures, c.from-2.ensures) (ap (λ (n : ℕ). (c.args.second + n % 65521 * c.args.first + c.args.comes + (65521 - n % 65521)) % 65521) len ∙ second_after c.args.first c.args.second c.args.comes bytes comes)
