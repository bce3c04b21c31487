use Rattle.std.proofs.Common.{rules, ◌≡◌, ℤ, Some, None, w32, w64, to_z, of_z, refl, ◌∙◌}
use Rattle.std.proofs.lemmas.Int.{to_z-of_z}
use Rattle.zk_front.proofs.Calling.{on_ok_from}
use Rattle.zk_front.proofs.Keeping.{heard_is, touched_alike}
use Rattle.zk_front.proofs.session_table.SessionTable.hear.Goals as goal

pub returns-in-Some-clause-heard : goal.returns-in-Some-clause-heard
returns-in-Some-clause-heard c =
    let same : to_z w64 (of_z w64 c.args.session) ≡ c.args.session = to_z-of_z w64 c.args.session c.ranges.session in
    let timeout : ℤ = c.in-Some.timeout.now in
    on_ok_from c.touch.result
    (λ due. heard_is c.args.session _ c.args.now c.args.self.now.timeouts (Some timeout) c.args.self.now.tracker c.touch.new.self
    same (search (rules, c.in-Some.ensures.value)) (due ∙ touched_alike c.args.self.now.tracker _ c.args.session _ timeout _ c.args.now same (search (rules, to_z-of_z)) (to_z-of_z w64 c.args.now c.ranges.now)))
    c.touch.ensures.touched

pub returns-in-None-clause-heard : goal.returns-in-None-clause-heard
returns-in-None-clause-heard c =
    heard_is c.args.session _ c.args.now c.args.self.now.timeouts None c.args.self.now.tracker c.args.self.now.tracker
    (to_z-of_z w64 c.args.session c.ranges.session) (search (rules, c.get.ensures.value, c.in-None.is)) refl
