use Rattle.std.proofs.Common.{arith}
use Rattle.zab_frames.proofs.FrameLaws.{is_first}
use Rattle.zab_frames.proofs.frame.first_frame.Goals as goal

pub returns-clause-first : goal.returns-clause-first
returns-clause-first c = is_first (λ contents. contents.now) c.args.bytes.now c.cut_frame.result (λ i. omega (arith, c.type_inv.bytes i)) c.cut_frame.ensures
