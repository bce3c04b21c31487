use Rattle.std.proofs.Common.{rules, ◌≡◌, List, ℤ, subst, refl, to_z, of_z, w64}
use Rattle.std.proofs.lemmas.Int.{to_z-of_z}
use Rattle.std.proofs.lemmas.Result.{err_from_is_err_and}
use Rattle.zk_prepare.specs.Deadlines.{DeadlineMap, expired_at}
use Rattle.zk_front.specs.Remotes.{AsksAt, Serving, serving}
use Rattle.zk_front.proofs.Expiring.{asked_fault, asked_missed, asked_told}
use Rattle.zk_front.proofs.request_driver.RequestDriver.ask.Goals as goal

pub returns-in_err-made : goal.returns-in_err-made
returns-in_err-made g c =
    let tracker : DeadlineMap = c.args.self.now.clients.tracker in
    let now : ℤ = to_z w64 (of_z w64 c.args.now) in
    let old : Serving = serving c.args.self.now.caller c.args.self.now.clients in
    let between : Serving = serving c.expire_due.new.self.caller c.expire_due.new.self.clients in
    let new : Serving = serving c.make_own.new.self.caller c.make_own.new.self.clients in
    let r = c.from_residual-in_err-made.result in
    let p = err_from_is_err_and r c.from_residual-in_err-made.ensures.1 in
    subst (λ (n : ℤ). AsksAt n (expired_at tracker n) old c.args.ask r new) (to_z-of_z w64 c.args.now c.ranges.now)
    (asked_fault now (expired_at tracker now) c.args.ask old new r p.0 p.1
    (asked_missed now (expired_at tracker now) c.args.ask old between new refl c.in_ok-expire_due.ensures.expired c.in_err-made.ensures.missed))

pub returns : goal.returns
returns g c =
    let tracker : DeadlineMap = c.args.self.now.clients.tracker in
    let now : ℤ = to_z w64 (of_z w64 c.args.now) in
    let old : Serving = serving c.args.self.now.caller c.args.self.now.clients in
    let between : Serving = serving c.expire_due.new.self.caller c.expire_due.new.self.clients in
    let after : Serving = serving c.make_own.new.self.caller c.make_own.new.self.clients in
    let new : Serving = serving c.told.new.self.caller c.told.new.self.clients in
    let asked = c.in_ok-made.made.asked in
    let turn = c.in_ok-made.ensures.turn in
    subst (λ (n : ℤ). AsksAt n (expired_at tracker n) old c.args.ask c.told.result new) (to_z-of_z w64 c.args.now c.ranges.now)
    (asked_told now (expired_at tracker now) c.args.ask old between after new asked.sought asked.turn asked.session asked.now c.in_ok-made.made.outcome c.told.result refl c.in_ok-expire_due.ensures.expired
    c.in_ok-made.ensures.called c.in_ok-made.ensures.heard c.in_ok-made.ensures.asked turn.0 turn.1 turn.2 c.told.ensures.same c.told.ensures.told c.in_ok-made.ensures.read c.told.ensures.events c.told.ensures.kept c.told.ensures.left)
