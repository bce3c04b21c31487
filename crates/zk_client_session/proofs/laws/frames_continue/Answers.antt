use Rattle.zk_client_session.proofs.Continuing.{frame_continues}
use Rattle.zk_client_session.proofs.laws.frames_continue.Goals as goal

pub returns : goal.returns
returns c = frame_continues
