use Rattle.zk_format.specs.Listings.{IsListedPath}
use Rattle.zk_format.specs.Spelling.{quoted}
use Rattle.zk_listing.specs.Reading.{path_at}
use Rattle.zk_listing.proofs.QuotedLaws.{path_exact}
use Rattle.zk_listing.proofs.ReaderLaws.{by_view, moved_found, moved_only}
use Rattle.zk_listing.proofs.readers.read_path.Goals as goal

pub returns-clause-found : goal.returns-clause-found
returns-clause-found c = moved_found (λ x. x) quoted IsListedPath path_at path_exact c.path-read.result c.move_on.result c.args.input.now.now c.path-read.new.input.now c.move_on.new.input.now c.move_on.ensures.same c.move_on.ensures.moved (by_view c.path-read.result c.path-read.new.input.now (path_at c.args.input.now.now) c.path-read.ensures)

pub returns-clause-only : goal.returns-clause-only
returns-clause-only c = moved_only (λ x. x) quoted IsListedPath path_at path_exact c.path-read.result c.move_on.result c.args.input.now.now c.path-read.new.input.now c.move_on.new.input.now c.move_on.ensures.same c.move_on.ensures.moved (by_view c.path-read.result c.path-read.new.input.now (path_at c.args.input.now.now) c.path-read.ensures)
