use Rattle.zk_format.specs.Listings.{AreListedAcls}
use Rattle.zk_format.specs.Spelling.{acl_text}
use Rattle.zk_listing.specs.Reading.{acl_at}
use Rattle.zk_listing.proofs.AclLaws.{acl_exact}
use Rattle.zk_listing.proofs.ReaderLaws.{by_view, moved_found, moved_only}
use Rattle.zk_listing.proofs.readers.read_acl.Goals as goal

pub returns-clause-found : goal.returns-clause-found
returns-clause-found c = moved_found (λ x. x) acl_text AreListedAcls acl_at acl_exact c.acl-read.result c.move_on.result c.args.input.now.now c.acl-read.new.input.now c.move_on.new.input.now c.move_on.ensures.same c.move_on.ensures.moved (by_view c.acl-read.result c.acl-read.new.input.now (acl_at c.args.input.now.now) c.acl-read.ensures)

pub returns-clause-only : goal.returns-clause-only
returns-clause-only c = moved_only (λ x. x) acl_text AreListedAcls acl_at acl_exact c.acl-read.result c.move_on.result c.args.input.now.now c.acl-read.new.input.now c.move_on.new.input.now c.move_on.ensures.same c.move_on.ensures.moved (by_view c.acl-read.result c.acl-read.new.input.now (acl_at c.args.input.now.now) c.acl-read.ensures)
