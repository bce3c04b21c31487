use Rattle.zab_model.specs.Worlds.{profile_of}
use Rattle.zab_host_laws.proofs.Tags.{tags_differ, issued_are_fresh}
use Rattle.zab_host_laws.proofs.host_laws.tags_are_issued_once.Goals as goal

pub returns-clause-differ : goal.returns-clause-differ
returns-clause-differ g c = tags_differ

pub returns-clause-fresh : goal.returns-clause-fresh
returns-clause-fresh g c = issued_are_fresh (profile_of (g.Q.Quorums.passes c.args._quorums.now) g.P.Primary.made_of g.P.Primary.tag_of g.P.Primary.closing_of)
