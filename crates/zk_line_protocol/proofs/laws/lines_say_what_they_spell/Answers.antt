use Rattle.zk_line_protocol.proofs.SayingLaws.{lines_say}
use Rattle.zk_line_protocol.proofs.laws.lines_say_what_they_spell.Goals as goal

pub returns : goal.returns
returns c = lines_say
