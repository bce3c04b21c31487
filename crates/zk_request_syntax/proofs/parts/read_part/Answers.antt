use Rattle.zk_request_syntax.specs.Reading.{part_at}
use Rattle.zk_request_syntax.specs.RequestLines.{SpellsPart}
use Rattle.zk_request_syntax.proofs.PartTexts.{whole_part}
use Rattle.zk_request_syntax.proofs.Readings.{reads_all}
use Rattle.zk_request_syntax.proofs.parts.read_part.Goals as goal

pub returns : goal.returns
returns c =
    let read = reads_all SpellsPart part_at whole_part c.args.line.now c.part-read.result c.part-read.new.input.now c.part-read.ensures in
    rw c.alone.ensures read
