use Rattle.zab_model.specs.Worlds.{profile_of}
use Rattle.zab_host_laws.proofs.Releases.{releases_are}
use Rattle.zab_host_laws.proofs.host_laws.releases_are_steps.Goals as goal

pub returns : goal.returns
returns g c = releases_are (profile_of (g.Q.Quorums.passes c.args._quorums.now) g.P.Primary.made_of g.P.Primary.tag_of g.P.Primary.closing_of)
