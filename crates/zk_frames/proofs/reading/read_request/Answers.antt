use Rattle.std.proofs.Common.{subst, arith}
use Rattle.zk_frames.specs.Reading.{IsRead}
use Rattle.zk_frames.proofs.Whole.{is_found, all_again, all_trails}
use Rattle.zk_frames.proofs.reading.read_request.Goals as goal

pub returns-clause-found : goal.returns-clause-found
returns-clause-found c = is_found c.args.bytes.now c.request.result (λ i. omega (arith, c.type_inv.bytes i)) c.request.ensures

pub returns-clause-only : goal.returns-clause-only
returns-clause-only c = λ request is. subst (λ read. IsRead c.request.result read) (all_again c.args.bytes.now request is) c.request.ensures

pub returns-clause-trailing : goal.returns-clause-trailing
returns-clause-trailing c = λ front rest request is parts some. subst (λ read. IsRead c.request.result read) (all_trails c.args.bytes.now front rest request is parts some) c.request.ensures
