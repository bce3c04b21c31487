use Rattle.zk_request_syntax.specs.Reading.{lookup_at}
use Rattle.zk_request_syntax.specs.RequestLines.{SpellsLookup}
use Rattle.zk_request_syntax.proofs.LookupTexts.{whole_lookup}
use Rattle.zk_line_protocol.proofs.WholeReadings.{makes}
use Rattle.zk_line_protocol.proofs.reading.lookup_in.Goals as goal

pub returns : goal.returns
returns c = makes SpellsLookup lookup_at whole_lookup c.args.text.now c.read_lookup.result c.read_lookup.ensures
