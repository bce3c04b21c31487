use Rattle.std.proofs.Common.{refl}
use Rattle.std.specs.Int.{int_wrap}
use Rattle.zk_client_session.proofs.laws.new_nodes_have_this_stat.Goals as goal

pub returns : goal.returns
unfolding int_wrap
returns c = λ txn content acl flags. refl
