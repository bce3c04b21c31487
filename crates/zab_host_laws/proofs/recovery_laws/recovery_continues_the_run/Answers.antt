use Rattle.zab_model.specs.Worlds.{profile_of}
use Rattle.zab_host_laws.proofs.Bouncing.{goes_on}
use Rattle.zab_host_laws.proofs.OneRun.{one_run}
use Rattle.zab_host_laws.proofs.recovery_laws.recovery_continues_the_run.Goals as goal

pub returns-clause-next : goal.returns-clause-next
returns-clause-next g c = goes_on (profile_of (g.Q.Quorums.passes c.args._quorums.now) g.P.Primary.made_of g.P.Primary.tag_of g.P.Primary.closing_of)

pub returns-clause-lives : goal.returns-clause-lives
returns-clause-lives g c = one_run (profile_of (g.Q.Quorums.passes c.args._quorums.now) g.P.Primary.made_of g.P.Primary.tag_of g.P.Primary.closing_of)
