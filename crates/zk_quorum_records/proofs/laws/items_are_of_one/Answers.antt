use Rattle.zk_quorum_records.proofs.Streams.{items_are_of_one}
use Rattle.zk_quorum_records.proofs.laws.items_are_of_one.Goals as goal

pub returns : goal.returns
returns c = items_are_of_one
