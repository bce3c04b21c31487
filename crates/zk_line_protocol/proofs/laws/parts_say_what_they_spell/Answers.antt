use Rattle.zk_line_protocol.proofs.SayingLaws.{parts_say}
use Rattle.zk_line_protocol.proofs.laws.parts_say_what_they_spell.Goals as goal

pub returns : goal.returns
returns c = parts_say
