use Rattle.std.specs.Prelude.{FitsSigned}
use Rattle.std.specs.Int.{w64}
use Rattle.zk_format.specs.Spelling.{id_digits}
use Rattle.zk_listing.specs.Reading.{id_at}
use Rattle.zk_listing.proofs.LineLaws.{id_exact}
use Rattle.zk_listing.proofs.ReaderLaws.{by_view, moved_found, moved_only}
use Rattle.zk_listing.proofs.readers.read_id.Goals as goal

pub returns-clause-found : goal.returns-clause-found
returns-clause-found c = moved_found (λ x. x) id_digits (FitsSigned w64) id_at id_exact c.id-read.result c.move_on.result c.args.input.now.now c.id-read.new.input.now c.move_on.new.input.now c.move_on.ensures.same c.move_on.ensures.moved (by_view c.id-read.result c.id-read.new.input.now (id_at c.args.input.now.now) c.id-read.ensures.takes)

pub returns-clause-only : goal.returns-clause-only
returns-clause-only c = moved_only (λ x. x) id_digits (FitsSigned w64) id_at id_exact c.id-read.result c.move_on.result c.args.input.now.now c.id-read.new.input.now c.move_on.new.input.now c.move_on.ensures.same c.move_on.ensures.moved (by_view c.id-read.result c.id-read.new.input.now (id_at c.args.input.now.now) c.id-read.ensures.takes)
