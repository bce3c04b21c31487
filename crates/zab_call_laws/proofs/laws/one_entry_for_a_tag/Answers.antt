use Rattle.zab_model.specs.Worlds.{profile_of}
use Rattle.zab_call_laws.proofs.Origins.{tagged_once}
use Rattle.zab_call_laws.proofs.laws.one_entry_for_a_tag.Goals as goal

pub returns : goal.returns
returns g c = λ servers events.
    tagged_once (profile_of (g.Q.Quorums.passes c.args._quorums.now) g.P.Primary.made_of g.P.Primary.tag_of g.P.Primary.closing_of)
    g.met.P.Primary.made_tag servers events
