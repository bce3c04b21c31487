use Rattle.zab_model.specs.Worlds.{profile_of}
use Rattle.zab_host_laws.proofs.Composition.{inputs_are, restarts_from}
use Rattle.zab_host_laws.proofs.host_laws.inputs_are_steps.Goals as goal

pub returns-clause-inputs : goal.returns-clause-inputs
returns-clause-inputs g c = inputs_are (profile_of (g.Q.Quorums.passes c.args._quorums.now) g.P.Primary.made_of g.P.Primary.tag_of g.P.Primary.closing_of)

pub returns-clause-starts : goal.returns-clause-starts
returns-clause-starts g c = λ cloud number it is up.
    restarts_from (profile_of (g.Q.Quorums.passes c.args._quorums.now) g.P.Primary.made_of g.P.Primary.tag_of g.P.Primary.closing_of) cloud number it is up
