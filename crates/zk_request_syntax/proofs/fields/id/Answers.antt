use Rattle.std.specs.Prelude.{FitsSigned}
use Rattle.zk_format.specs.Spelling.{id_digits}
use Rattle.std.specs.Int.{w64}
use Rattle.zk_listing.specs.Reading.{id_at}
use Rattle.zk_listing.proofs.LineLaws.{id_exact}
use Rattle.zk_request_syntax.specs.Reading.{at_end, id_field_at}
use Rattle.zk_request_syntax.proofs.Ended.{takes_ended, takes_itself, ended_without_memory}
use Rattle.zk_request_syntax.proofs.fields.id.Goals as goal

pub returns-clause-taken : goal.returns-clause-taken
unfolding id_field_at
returns-clause-taken c =
    let found = takes_ended (λ x. x) id_digits (FitsSigned w64) id_at id_exact c.args.input.now.now c.read_id-read.result c.read_id-read.new.input.now c.read_id-read.ensures.found c.read_id-read.ensures.only in
    takes_itself _ _ _ (rw c.ended.ensures found)

pub returns-clause-memory : goal.returns-clause-memory
returns-clause-memory c =
    rw c.ended.ensures (ended_without_memory (at_end c.read_id-read.new.input.now) c.read_id-read.result c.read_id-read.ensures.memory)
