use Rattle.std.proofs.Common.{option_map, rules}
use Rattle.zk_line_protocol.proofs.OutsideMultis.{outside}
use Rattle.zk_line_protocol.proofs.session.Session.take.Goals as goal

pub returns-in_ok-meaning_of-in-None : goal.returns-in_ok-meaning_of-in-None
returns-in_ok-meaning_of-in-None c = outside c.args.self.now c.obey.new.self c.take.new.self c.args.seen (option_map (λ text. text.now) c.args.line) c.in_ok-meaning_of-in-None.field-0 c.obey.result (search rules) (search rules) c.in_ok-meaning_of-in-None.ensures (search rules)
