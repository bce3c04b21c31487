use Rattle.std.proofs.Common.{ap}
use Rattle.zk_frames.proofs.Whole.{all_again}
use Rattle.zk_client_session.specs.Links.{action_read}
use Rattle.zk_client_session.proofs.laws.frames_mean_their_requests.Goals as goal

pub returns-clause-every : goal.returns-clause-every
returns-clause-every c = λ link frame request is. ap (action_read link) (all_again frame request is)

pub returns-clause-pings : goal.returns-clause-pings
returns-clause-pings c = λ link frame xid is. ap (action_read link) (all_again frame _ is)
