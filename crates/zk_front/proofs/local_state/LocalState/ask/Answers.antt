use Rattle.std.proofs.Common.{◌≡◌, ℤ, w64, to_z, of_z, ap, subst, ◌∙◌}
use Rattle.std.proofs.lemmas.Int.{to_z-of_z}
use Rattle.zk_front.specs.Asks.{event_of}
use Rattle.zk_front.specs.Locals.{Settles, home_at}
use Rattle.zk_front.proofs.Telling.{asks_answered, asks_refused}
use Rattle.zk_front.proofs.local_state.LocalState.ask.Goals as goal

pub returns-in-Ok : goal.returns-in-Ok
returns-in-Ok c =
    let now : to_z w64 (of_z w64 c.args.now) ≡ c.args.now = to_z-of_z w64 c.args.now c.ranges.now in
    let session = c.session_of-session.result in
    let who : to_z w64 (of_z w64 session) ≡ session = to_z-of_z w64 session (record { sfits = c.session_of-session.type_inv }) in
    asks_answered c.args.self.now c.args.ask c.args.tag c.args.now session c.sought_by-sought.result c.event_of.result c.in-Ok.answer c.happen.new.ensemble c.settle.result c.settle.new.self c.session_of-session.ensures c.sought_by-sought.ensures
    (c.event_of.ensures ∙ ap (λ (z : ℤ). event_of c.args.ask c.args.tag z) now) c.in-Ok.ensures
    (subst (λ (s : ℤ). Settles (home_at c.happen.new.ensemble c.args.self.now.servers.arrived c.args.self.now.told) s c.sought_by-sought.result c.in-Ok.answer c.args.tag c.settle.result c.settle.new.self) who c.settle.ensures)

pub returns-in-Err : goal.returns-in-Err
returns-in-Err c =
    let now : to_z w64 (of_z w64 c.args.now) ≡ c.args.now = to_z-of_z w64 c.args.now c.ranges.now in
    asks_refused c.args.self.now c.args.ask c.args.tag c.args.now c.event_of.result c.in-Err.fault c.happen.new.ensemble c.service_fault_of.result
    (c.event_of.ensures ∙ ap (λ (z : ℤ). event_of c.args.ask c.args.tag z) now) c.in-Err.ensures c.service_fault_of.ensures
