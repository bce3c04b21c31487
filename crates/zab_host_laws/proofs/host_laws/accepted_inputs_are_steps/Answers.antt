use Rattle.zab_model.specs.Worlds.{profile_of}
use Rattle.zab_host_laws.proofs.Fits.{numbers_stay, accepted_are_steps}
use Rattle.zab_host_laws.proofs.host_laws.accepted_inputs_are_steps.Goals as goal

pub returns-clause-numbers : goal.returns-clause-numbers
returns-clause-numbers g c = numbers_stay (profile_of (g.Q.Quorums.passes c.args._quorums.now) g.P.Primary.made_of g.P.Primary.tag_of g.P.Primary.closing_of)

pub returns-clause-inputs : goal.returns-clause-inputs
returns-clause-inputs g c = accepted_are_steps (profile_of (g.Q.Quorums.passes c.args._quorums.now) g.P.Primary.made_of g.P.Primary.tag_of g.P.Primary.closing_of)
