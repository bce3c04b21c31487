use Rattle.zk_quorum_records.proofs.Streams.{composes}
use Rattle.zk_quorum_records.proofs.laws.decoding_composes.Goals as goal

pub returns : goal.returns
returns c = composes
