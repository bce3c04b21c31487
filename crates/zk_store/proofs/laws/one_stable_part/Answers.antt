use Rattle.zk_store.proofs.Unique.{one_part}
use Rattle.zk_store.proofs.laws.one_stable_part.Goals as goal

pub returns : goal.returns
returns c = one_part
