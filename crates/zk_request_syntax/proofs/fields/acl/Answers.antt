use Rattle.zk_listing.specs.Reading.{acl_at}
use Rattle.zk_listing.proofs.AclLaws.{acl_exact}
use Rattle.zk_format.specs.Listings.{AreListedAcls}
use Rattle.zk_format.specs.Spelling.{acl_text}
use Rattle.zk_request_syntax.specs.Reading.{acl_field_at}
use Rattle.zk_request_syntax.proofs.Ended.{takes_ended, takes_itself}
use Rattle.zk_request_syntax.proofs.fields.acl.Goals as goal

pub returns : goal.returns
unfolding acl_field_at
returns c =
    let found = takes_ended (λ x. x) acl_text AreListedAcls acl_at acl_exact c.args.input.now.now c.read_acl-read.result c.read_acl-read.new.input.now c.read_acl-read.ensures.found c.read_acl-read.ensures.only in
    takes_itself _ _ _ (rw c.ended.ensures found)
