use Rattle.zk_store.proofs.Flips.{noticed}
use Rattle.zk_store.proofs.change_laws.changes_are_noticed.Goals as goal

pub returns : goal.returns
returns c = noticed
