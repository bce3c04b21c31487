use Rattle.std.proofs.Common.{sym}
use Rattle.zab_frames.proofs.StreamLaws.{exact}
use Rattle.zab_frames.proofs.laws.decoding_is_exact.Goals as goal

pub returns : goal.returns
returns c = λ sent found bytes more rest each same read. exact sent found bytes more rest each read.each (sym same) read.whole
