use Rattle.std.proofs.Common.{ap, ◌∙◌}
use Rattle.std.specs.FinMap as finite
use Rattle.zk_table.specs.States.{path_cmp}
use Rattle.zk_replay.proofs.digests.Digests.new.Goals as goal

pub returns-clause-tally : goal.returns-clause-tally
returns-clause-tally c = record {
  owners = λ q. ap (λ m. finite.get m q) c.new.ensures ∙ finite.get-empty path_cmp q;
  count = c.new-2.ensures;
}
