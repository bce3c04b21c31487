use Rattle.std.proofs.Common.{pos, w32, rules}
use Rattle.std.proofs.lemmas.Int.{wrapping_add_is}
use Rattle.zk_requests.proofs.versions.one_more.Goals as goal

pub returns : goal.returns
returns c = wrapping_add_is w32 c.args.number (pos 1) c.ranges.number (search rules)
