use Rattle.zk_mend.proofs.NewerTrees.{mended_tree_is_the_servers}
use Rattle.zk_mend.proofs.laws.mended_tree_is_the_servers.Goals as goal

pub returns : goal.returns
returns c = mended_tree_is_the_servers
