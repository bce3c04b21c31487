use Rattle.std.specs.Prelude.{FitsSigned}
use Rattle.std.specs.Fmt.{signed_decimal}
use Rattle.std.specs.Int.{w32}
use Rattle.zk_listing.specs.Reading.{int_at}
use Rattle.zk_listing.proofs.AclLaws.{int_exact}
use Rattle.zk_listing.proofs.DecimalLaws.{narrow32}
use Rattle.zk_listing.proofs.ReaderLaws.{by_view, moved_found, moved_only}
use Rattle.zk_listing.proofs.readers.read_int.Goals as goal

pub returns-clause-found : goal.returns-clause-found
returns-clause-found c = moved_found (λ x. x) signed_decimal (FitsSigned w32) (int_at w32) (int_exact w32 narrow32) c.int-read.result c.move_on.result c.args.input.now.now c.int-read.new.input.now c.move_on.new.input.now c.move_on.ensures.same c.move_on.ensures.moved (by_view c.int-read.result c.int-read.new.input.now (int_at w32 c.args.input.now.now) c.int-read.ensures.takes)

pub returns-clause-only : goal.returns-clause-only
returns-clause-only c = moved_only (λ x. x) signed_decimal (FitsSigned w32) (int_at w32) (int_exact w32 narrow32) c.int-read.result c.move_on.result c.args.input.now.now c.int-read.new.input.now c.move_on.new.input.now c.move_on.ensures.same c.move_on.ensures.moved (by_view c.int-read.result c.int-read.new.input.now (int_at w32 c.args.input.now.now) c.int-read.ensures.takes)
