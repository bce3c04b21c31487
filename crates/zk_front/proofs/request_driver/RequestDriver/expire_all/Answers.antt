use Rattle.std.proofs.Common.{rules, ◌≡◌, ◌+◌, ◌∷◌, [], List, ℤ, sym, subst, ap, ◌∙◌, to_z, of_z, w64}
use Rattle.std.proofs.lemmas.Int.{to_z-of_z}
use Rattle.std.specs.Vec.Iter.{into_iter_items}
use Rattle.zk_front.specs.Calling.{Calls}
use Rattle.zk_front.specs.Keeping.{let_go}
use Rattle.zk_front.specs.Remotes.{Expires, Serving, Stops, expiry, serving}
use Rattle.zk_front.proofs.Calling.{length_zero, on_err}
use Rattle.zk_front.proofs.Expiring.{Expiring, expiring_first, expiring_more, expiring_stopped, expiring_ended}
use Rattle.zk_front.proofs.request_driver.RequestDriver.expire_all.Goals as goal

pub loop-session-init : goal.loop-session-init
loop-session-init g c =
    let old : Serving = serving c.args.self.now.caller c.args.self.now.clients in
    let due : List ℤ = c.args.due.items in
    let now : ℤ = to_z w64 (of_z w64 c.args.now) in
    let left : into_iter_items c.into_iter-session-iterator.result ≡ due = search rules in
    subst (λ (l : List ℤ). Expiring now due l old old) (sym left) (expiring_first now due old)

pub returns-in_err-expire-clause-stopped : goal.returns-in_err-expire-clause-stopped
returns-in_err-expire-clause-stopped g c =
    let old : Serving = serving c.args.self.now.caller c.args.self.now.clients in
    let due : List ℤ = c.args.due.items in
    let now : ℤ = to_z w64 (of_z w64 c.args.now) in
    let was = c.loop-session in
    let between : Serving = serving was.self.caller was.self.clients in
    let new : Serving = serving c.expire.new.self.caller c.expire.new.self.clients in
    let left : List ℤ = into_iter_items c.next.new.self in
    let step : into_iter_items was.session-iterator ≡ c.in-Some.session ∷ left = search rules in
    let session_is : to_z w64 (of_z w64 c.in-Some.session) ≡ c.in-Some.session = search (rules, to_z-of_z) in
    let some : Stops now (c.in-Some.session ∷ []) between new = subst (λ (x : ℤ). Stops now (x ∷ []) between new) session_is c.in_err-expire.ensures.stopped in
    on_err _ c.from_residual.result
    (subst (λ (n : ℤ). Stops n due old new) (to_z-of_z w64 c.args.now c.ranges.now)
    (expiring_stopped now due left c.in-Some.session old between new (subst (λ (l : List ℤ). Expiring now due l old between) step was.invariant) some))

pub loop-session-preserved : goal.loop-session-preserved
loop-session-preserved g c =
    let old : Serving = serving c.args.self.now.caller c.args.self.now.clients in
    let due : List ℤ = c.args.due.items in
    let now : ℤ = to_z w64 (of_z w64 c.args.now) in
    let was = c.loop-session in
    let between : Serving = serving was.self.caller was.self.clients in
    let new : Serving = serving c.expire.new.self.caller c.expire.new.self.clients in
    let left : List ℤ = into_iter_items c.next.new.self in
    let step : into_iter_items was.session-iterator ≡ c.in-Some.session ∷ left = search rules in
    let session_is : to_z w64 (of_z w64 c.in-Some.session) ≡ c.in-Some.session = search (rules, to_z-of_z) in
    let called : Calls between.calling (expiry (between.calling.tag + 1) c.in-Some.session now ∷ []) new.calling =
    subst (λ (x : ℤ). Calls between.calling (expiry (between.calling.tag + 1) x now ∷ []) new.calling) session_is c.in_ok-expire.ensures.called in
    expiring_more now due left c.in-Some.session old between new (subst (λ (l : List ℤ). Expiring now due l old between) step was.invariant) called c.in_ok-expire.ensures.tag
    (c.in_ok-expire.ensures.let_go ∙ ap (λ x. let_go x between.keeping) session_is)

pub returns-clause-expired : goal.returns-clause-expired
returns-clause-expired g c =
    let old : Serving = serving c.args.self.now.caller c.args.self.now.clients in
    let due : List ℤ = c.args.due.items in
    let now : ℤ = to_z w64 (of_z w64 c.args.now) in
    let was = c.loop-session in
    let new : Serving = serving was.self.caller was.self.clients in
    let none : into_iter_items was.session-iterator ≡ [] = length_zero (into_iter_items was.session-iterator) (search (rules, c.in-None.ensures.steps.0)) in
    subst (λ (n : ℤ). Expires n due old new) (to_z-of_z w64 c.args.now c.ranges.now)
    (expiring_ended now due old new (subst (λ (l : List ℤ). Expiring now due l old new) none was.invariant))
