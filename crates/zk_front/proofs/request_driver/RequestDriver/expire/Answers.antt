use Rattle.std.proofs.Common.{rules, ◌≡◌, ◌+◌, ◌∷◌, [], ℕ, ℤ, subst, ap, refl, ◌∙◌, to_z, of_z, w64}
use Rattle.std.proofs.lemmas.Int.{to_z-of_z}
use Rattle.zk_front.specs.Calling.{Calling, Calls, CallsOne}
use Rattle.zk_front.specs.Keeping.{keeping_of, let_go}
use Rattle.zk_front.specs.Remotes.{Serving, expiry, serving}
use Rattle.zk_front.proofs.Calling.{on_err, on_ok, one_from}
use Rattle.zk_front.proofs.Expiring.{none_stops, one_stops}
use Rattle.zk_front.proofs.request_driver.RequestDriver.expire.Goals as goal

pub returns-in_err-tag-clause-stopped : goal.returns-in_err-tag-clause-stopped
returns-in_err-tag-clause-stopped g c =
    let kept = c.args.self.now.clients in
    on_err _ c.from_residual.result (none_stops c.args.now (c.args.session ∷ []) (serving c.args.self.now.caller kept) (serving c.next_tag.new.self kept) c.next_tag.ensures.same.0 c.next_tag.ensures.same.1 refl)

pub returns-in_err-make-clause-stopped : goal.returns-in_err-make-clause-stopped
returns-in_err-make-clause-stopped g c =
    let kept = c.args.self.now.clients in
    let same : c.make.new.self ≡ c.next_tag.new.self = c.in_err-make.ensures.refused in
    on_err _ c.from_residual-in_err-make.result (none_stops c.args.now (c.args.session ∷ []) (serving c.args.self.now.caller kept) (serving c.make.new.self kept)
    (ap (λ (x : Calling). x.calls) same ∙ c.next_tag.ensures.same.0) (ap (λ (x : Calling). x.receipts) same ∙ c.next_tag.ensures.same.1) refl)

called : (old between new : Calling) (tag : ℕ) (s s' n n' : ℤ) → between.calls ≡ old.calls → between.receipts ≡ old.receipts → tag ≡ old.tag + 1 → s' ≡ s → n' ≡ n → CallsOne between (expiry tag s' n') new
    → Calls old (expiry (old.tag + 1) s n ∷ []) new
called old between new tag s s' n n' calls receipts next session now one =
    subst (λ (t : ℕ). Calls old (expiry t s n ∷ []) new) next
    (one_from old between new (expiry tag s n) calls receipts
    (subst (λ (x : ℤ). CallsOne between (expiry tag s x) new) now (subst (λ (x : ℤ). CallsOne between (expiry tag x n') new) session one)))

pub returns-clause-called : goal.returns-clause-called
returns-clause-called g c =
    on_ok _ c.accepted.result (called c.args.self.now.caller c.next_tag.new.self c.make.new.self c.in_ok-tag.tag c.args.session _ c.args.now _ c.next_tag.ensures.same.0 c.next_tag.ensures.same.1 c.in_ok-tag.ensures.next
    (to_z-of_z w64 c.args.session c.ranges.session) (to_z-of_z w64 c.args.now c.ranges.now) c.in_ok-make.ensures.called)

pub returns-clause-stopped : goal.returns-clause-stopped
returns-clause-stopped g c =
    let old : Serving = serving c.args.self.now.caller c.args.self.now.clients in
    let new : Serving = serving c.make.new.self c.forget.new.self in
    let gone : keeping_of c.forget.new.self ≡ let_go c.args.session (keeping_of c.args.self.now.clients) = search rules in
    on_err _ c.accepted.result (one_stops c.args.now c.args.session old new
    (called c.args.self.now.caller c.next_tag.new.self c.make.new.self c.in_ok-tag.tag c.args.session _ c.args.now _ c.next_tag.ensures.same.0 c.next_tag.ensures.same.1 c.in_ok-tag.ensures.next
    (to_z-of_z w64 c.args.session c.ranges.session) (to_z-of_z w64 c.args.now c.ranges.now) c.in_ok-make.ensures.called) gone)
