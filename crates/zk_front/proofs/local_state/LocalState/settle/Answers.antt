use Rattle.std.proofs.Common.{◌≡◌, ℤ, w64, to_z, of_z, subst}
use Rattle.std.proofs.lemmas.Int.{to_z-of_z}
use Rattle.zk_front.specs.Locals.{Tells, reply_by}
use Rattle.zk_front.specs.declared.local_state.LocalState.{LocalState}
use Rattle.zk_front.proofs.Telling.{settled, unsettled}
use Rattle.zk_front.proofs.local_state.LocalState.settle.Goals as goal

pub returns-in-Err : goal.returns-in-Err
returns-in-Err c = unsettled c.args.self.now c.deliver.new.self c.args.session c.args.sought c.args.answer c.args.tag c.in-Err.fault c.in-Err.ensures.err

pub returns-in-Ok : goal.returns-in-Ok
returns-in-Ok c =
    let same : to_z w64 (of_z w64 c.args.session) ≡ c.args.session = to_z-of_z w64 c.args.session c.ranges.session in
    let mid : LocalState = record { servers = c.deliver.new.self; told = c.args.self.now.told } in
    settled c.args.self.now c.deliver.new.self c.args.session c.args.sought c.args.answer c.args.tag c.tell.result c.tell.new.self c.in-Ok.ensures.ok
    (subst (λ (s : ℤ). Tells mid s (reply_by c.args.sought c.args.answer c.args.tag c.deliver.new.self.ensemble) c.tell.result c.tell.new.self) same c.tell.ensures.tells) c.tell.ensures.servers
