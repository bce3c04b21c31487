use Rattle.zk_request_syntax.specs.Reading.{part_at}
use Rattle.zk_request_syntax.specs.RequestLines.{SpellsPart}
use Rattle.zk_request_syntax.proofs.PartTexts.{whole_part}
use Rattle.zk_line_protocol.proofs.WholeReadings.{makes}
use Rattle.zk_line_protocol.proofs.reading.part_in.Goals as goal

pub returns : goal.returns
returns c = makes SpellsPart part_at whole_part c.args.text.now c.read_part.result c.read_part.ensures
