use Rattle.zk_client_session.proofs.Numbers.{reply_number}
use Rattle.zk_client_session.proofs.laws.replies_have_their_number.Goals as goal

pub returns : goal.returns
returns c = reply_number
