use Rattle.std.proofs.Common.{arith}
use Rattle.zab_frames.proofs.MessageLaws.{read_as}
use Rattle.zab_frames.proofs.messages.read_message.Goals as goal

pub returns-in-Ok-clause-found : goal.returns-in-Ok-clause-found
returns-in-Ok-clause-found c = read_as c.args.contents.now c.in-Ok.message (λ i. omega (arith, c.type_inv.contents i)) c.in-Ok.ensures
