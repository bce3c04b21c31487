use Rattle.zk_request_syntax.specs.Reading.{request_at}
use Rattle.zk_request_syntax.specs.RequestLines.{SpellsRequest}
use Rattle.zk_request_syntax.proofs.RequestTexts.{whole_request}
use Rattle.zk_line_protocol.proofs.WholeReadings.{makes}
use Rattle.zk_line_protocol.proofs.reading.request_in.Goals as goal

pub returns : goal.returns
returns c = makes SpellsRequest request_at whole_request c.args.text.now c.read_request.result c.read_request.ensures
