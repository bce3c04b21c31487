-- The rest of the digits.
use Rattle.std.proofs.Common.{length}
use Rattle.zk_json_commands.proofs.row_lines.+without_zeros.Given as goal

abbrev pub decreases-without_zeros : goal.decreases-without_zeros
decreases-without_zeros l = length l.digits.now
