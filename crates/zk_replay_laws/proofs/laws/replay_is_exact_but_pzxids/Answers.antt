use Rattle.zk_replay_laws.proofs.Exact as exact
use Rattle.zk_replay_laws.proofs.laws.replay_is_exact_but_pzxids.Goals as goal

pub returns : goal.returns
returns c = exact.replay_is_exact_but_pzxids
