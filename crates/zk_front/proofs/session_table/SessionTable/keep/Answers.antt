use Rattle.std.proofs.Common.{◌≡◌, ℤ, w32, w64, to_z, of_z, ap, ◌∙◌}
use Rattle.std.proofs.lemmas.Int.{to_z-of_z}
use Rattle.zk_front.proofs.Keeping.{kept_is, touched_alike}
use Rattle.zk_front.proofs.session_table.SessionTable.keep.Goals as goal

pub returns-clause-kept : goal.returns-clause-kept
returns-clause-kept c =
    let session : to_z w64 (of_z w64 c.args.session) ≡ c.args.session = to_z-of_z w64 c.args.session c.ranges.session in
    let timeout : to_z w32 (of_z w32 c.args.timeout) ≡ c.args.timeout = to_z-of_z w32 c.args.timeout c.ranges.timeout in
    let now : to_z w64 (of_z w64 c.args.now) ≡ c.args.now = to_z-of_z w64 c.args.now c.ranges.now in
    kept_is c.args.session _ c.args.timeout _ c.args.now c.tell.new.self.timeouts c.insert.new.self _ c.args.self.now.tracker c.tell.new.self.tracker
    session timeout (ap (λ k. k.timeouts) c.tell.ensures) c.in_ok-insert.ensures.updates
    (ap (λ k. k.deadlines) c.tell.ensures ∙ c.in_ok-touch.ensures.touched ∙ touched_alike c.args.self.now.tracker _ c.args.session _ c.args.timeout _ c.args.now session timeout now)
