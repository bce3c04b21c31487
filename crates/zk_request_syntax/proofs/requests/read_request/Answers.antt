use Rattle.zk_request_syntax.specs.Reading.{request_at}
use Rattle.zk_request_syntax.specs.RequestLines.{SpellsRequest}
use Rattle.zk_request_syntax.proofs.RequestTexts.{whole_request}
use Rattle.zk_request_syntax.proofs.Readings.{reads_all}
use Rattle.zk_request_syntax.proofs.requests.read_request.Goals as goal

pub returns : goal.returns
returns c =
    let input = c.args.text.now in
    let read = reads_all SpellsRequest request_at whole_request input c.request-read.result c.request-read.new.input.now c.request-read.ensures in
    rw c.alone.ensures read
