use Rattle.std.proofs.Common.{◌≡◌, ℤ, Ok, w64, to_z, of_z, refl, subst}
use Rattle.std.proofs.lemmas.Int.{to_z-of_z}
use Rattle.zk_front.specs.Locals.{Tells, reply_by}
use Rattle.zk_front.proofs.Telling.{tells_none, tells_reply}
use Rattle.zk_front.proofs.local_state.LocalState.tell.Goals as goal

pub returns-in-Ok-clause-tells : goal.returns-in-Ok-clause-tells
returns-in-Ok-clause-tells c =
    let same : to_z w64 (of_z w64 c.args.session) ≡ c.args.session = to_z-of_z w64 c.args.session c.ranges.session in
    tells_reply c.args.self.now c.args.session (reply_by c.args.sought c.args.answer c.args.tag c.args.self.now.servers.ensemble) c.in-Ok.reply c.tell_with.result c.tell_with.new.self c.in-Ok.ensures
    (subst (λ (s : ℤ). Tells c.args.self.now s (Ok c.in-Ok.reply) c.tell_with.result c.tell_with.new.self) same c.tell_with.ensures.tells)

pub returns-in-Err-clause-tells : goal.returns-in-Err-clause-tells
returns-in-Err-clause-tells c =
    tells_none c.args.self.now c.args.session (reply_by c.args.sought c.args.answer c.args.tag c.args.self.now.servers.ensemble) c.in-Err.fault c.args.self.now c.in-Err.ensures refl
