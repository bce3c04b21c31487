use Rattle.zk_format.specs.Listings.{IsListedContent}
use Rattle.zk_format.specs.Spelling.{content_text}
use Rattle.zk_listing.specs.Reading.{content_at}
use Rattle.zk_listing.proofs.PartLaws.{content_exact}
use Rattle.zk_listing.proofs.ReaderLaws.{by_view, moved_found, moved_only}
use Rattle.zk_listing.proofs.readers.read_content.Goals as goal

pub returns-clause-found : goal.returns-clause-found
returns-clause-found c = moved_found (λ x. x) content_text IsListedContent content_at content_exact c.content-read.result c.move_on.result c.args.input.now.now c.content-read.new.input.now c.move_on.new.input.now c.move_on.ensures.same c.move_on.ensures.moved (by_view c.content-read.result c.content-read.new.input.now (content_at c.args.input.now.now) c.content-read.ensures)

pub returns-clause-only : goal.returns-clause-only
returns-clause-only c = moved_only (λ x. x) content_text IsListedContent content_at content_exact c.content-read.result c.move_on.result c.args.input.now.now c.content-read.new.input.now c.move_on.new.input.now c.move_on.ensures.same c.move_on.ensures.moved (by_view c.content-read.result c.content-read.new.input.now (content_at c.args.input.now.now) c.content-read.ensures)
