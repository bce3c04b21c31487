use Rattle.std.proofs.Common.{◌≡◌, sym}
use Rattle.zk_quorum_records.proofs.Streams.{exact}
use Rattle.zk_quorum_records.proofs.laws.decoding_is_exact.Goals as goal

pub returns : goal.returns
returns c = λ first last between sent found bytes more rest order within same read. exact first last between sent found bytes more rest order within read.order (sym same) read.whole
