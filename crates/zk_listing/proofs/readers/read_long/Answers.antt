use Rattle.std.specs.Prelude.{FitsSigned}
use Rattle.std.specs.Fmt.{signed_decimal}
use Rattle.std.specs.Int.{w64}
use Rattle.zk_listing.specs.Reading.{int_at}
use Rattle.zk_listing.proofs.AclLaws.{int_exact}
use Rattle.zk_listing.proofs.DecimalLaws.{narrow64}
use Rattle.zk_listing.proofs.ReaderLaws.{by_view, moved_found, moved_only}
use Rattle.zk_listing.proofs.readers.read_long.Goals as goal

pub returns-clause-found : goal.returns-clause-found
returns-clause-found c = moved_found (λ x. x) signed_decimal (FitsSigned w64) (int_at w64) (int_exact w64 narrow64) c.long-read.result c.move_on.result c.args.input.now.now c.long-read.new.input.now c.move_on.new.input.now c.move_on.ensures.same c.move_on.ensures.moved (by_view c.long-read.result c.long-read.new.input.now (int_at w64 c.args.input.now.now) c.long-read.ensures.takes)

pub returns-clause-only : goal.returns-clause-only
returns-clause-only c = moved_only (λ x. x) signed_decimal (FitsSigned w64) (int_at w64) (int_exact w64 narrow64) c.long-read.result c.move_on.result c.args.input.now.now c.long-read.new.input.now c.move_on.new.input.now c.move_on.ensures.same c.move_on.ensures.moved (by_view c.long-read.result c.long-read.new.input.now (int_at w64 c.args.input.now.now) c.long-read.ensures.takes)
