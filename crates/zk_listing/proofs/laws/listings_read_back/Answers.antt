use Rattle.zk_listing.proofs.LineLaws.{same_listing}
use Rattle.zk_listing.proofs.TextLaws.{listing_utf8}
use Rattle.zk_listing.proofs.laws.listings_read_back.Goals as goal

pub returns-clause-texts : goal.returns-clause-texts
returns-clause-texts c = listing_utf8

pub returns-clause-one_meaning : goal.returns-clause-one_meaning
returns-clause-one_meaning c = same_listing
