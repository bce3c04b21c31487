use Rattle.std.specs.Prelude.{FitsSigned}
use Rattle.std.specs.Fmt.{signed_decimal}
use Rattle.std.specs.Int.{w32}
use Rattle.zk_listing.specs.Reading.{int_at}
use Rattle.zk_listing.proofs.AclLaws.{int_exact}
use Rattle.zk_listing.proofs.DecimalLaws.{narrow32}
use Rattle.zk_request_syntax.specs.Reading.{at_end, int_field_at}
use Rattle.zk_request_syntax.proofs.Ended.{takes_ended, takes_itself, ended_without_memory}
use Rattle.zk_request_syntax.proofs.fields.int.Goals as goal

pub returns-clause-taken : goal.returns-clause-taken
unfolding int_field_at
returns-clause-taken c =
    let found = takes_ended (λ x. x) signed_decimal (FitsSigned w32) (int_at w32) (int_exact w32 narrow32) c.args.input.now.now c.read_int-read.result c.read_int-read.new.input.now c.read_int-read.ensures.found c.read_int-read.ensures.only in
    takes_itself _ _ _ (rw c.ended.ensures found)

pub returns-clause-memory : goal.returns-clause-memory
returns-clause-memory c =
    rw c.ended.ensures (ended_without_memory (at_end c.read_int-read.new.input.now) c.read_int-read.result c.read_int-read.ensures.memory)
