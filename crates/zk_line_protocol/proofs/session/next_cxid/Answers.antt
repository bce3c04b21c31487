use Rattle.std.proofs.Common.{pos, w32, rules}
use Rattle.std.proofs.lemmas.Int.{wrapping_add_is}
use Rattle.zk_line_protocol.proofs.session.next_cxid.Goals as goal

pub returns : goal.returns
returns c = wrapping_add_is w32 c.args.cxid (pos 1) c.ranges.cxid (search rules)
