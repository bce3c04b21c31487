use Rattle.zk_request_syntax.specs.Reading.{lookup_at}
use Rattle.zk_request_syntax.specs.RequestLines.{SpellsLookup}
use Rattle.zk_request_syntax.proofs.LookupTexts.{whole_lookup}
use Rattle.zk_request_syntax.proofs.Readings.{reads_all}
use Rattle.zk_request_syntax.proofs.lookups.read_lookup.Goals as goal

pub returns : goal.returns
returns c =
    let input = c.args.text.now in
    let read = reads_all SpellsLookup lookup_at whole_lookup input c.lookup_by_word-read.result c.lookup_by_word-read.new.input.now c.lookup_by_word-read.ensures in
    rw c.alone.ensures read
