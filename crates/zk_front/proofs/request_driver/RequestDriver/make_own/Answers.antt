use Rattle.std.proofs.Common.{rules, ◌≡◌, ◌⊎◌, inl, inr, ◌+◌, ◌∷◌, [], ℕ, ℤ, subst, ap, refl, ◌∙◌, to_z, of_z, w64}
use Rattle.std.proofs.lemmas.Int.{to_z-of_z}
use Rattle.zk_front.specs.Calling.{Calling, Calls, CallsOne}
use Rattle.zk_front.specs.Keeping.{heard, keeping_of}
use Rattle.zk_front.specs.Asks.{event_of, session_of}
use Rattle.zk_front.proofs.Calling.{calls_none, on_err, one_from}
use Rattle.zk_front.proofs.Reading.{told_read}
use Rattle.zk_model.specs.declared.event.Event.{Event}
use Rattle.zk_front.proofs.request_driver.RequestDriver.make_own.Goals as goal

pub returns-in_err-hear-clause-missed : goal.returns-in_err-hear-clause-missed
returns-in_err-hear-clause-missed g c =
    let old : Calling = c.args.self.now.caller in
    on_err _ c.from_residual.result (inl (calls_none old old refl refl, inl (search rules)))

pub returns-in_err-tag-clause-missed : goal.returns-in_err-tag-clause-missed
returns-in_err-tag-clause-missed g c =
    let heard_of : keeping_of c.hear.new.self ≡ heard (session_of c.args.ask) c.args.now (keeping_of c.args.self.now.clients) = search rules in
    on_err _ c.from_residual-in_err-tag.result (inl (calls_none c.args.self.now.caller c.next_tag.new.self c.next_tag.ensures.same.0 c.next_tag.ensures.same.1, inr heard_of))

pub returns-in_err-outcome-clause-missed : goal.returns-in_err-outcome-clause-missed
returns-in_err-outcome-clause-missed g c =
    let same : c.ask.new.self ≡ c.next_tag.new.self = c.in_err-outcome.ensures.refused in
    let heard_of : keeping_of c.hear.new.self ≡ heard (session_of c.args.ask) c.args.now (keeping_of c.args.self.now.clients) = search rules in
    on_err _ c.from_residual-in_err-outcome.result (inl (
      calls_none c.args.self.now.caller c.ask.new.self (ap (λ (x : Calling). x.calls) same ∙ c.next_tag.ensures.same.0) (ap (λ (x : Calling). x.receipts) same ∙ c.next_tag.ensures.same.1),
      inr heard_of,
    ))

pub returns-in_err-accepted-clause-missed : goal.returns-in_err-accepted-clause-missed
returns-in_err-accepted-clause-missed g c =
    let old : Calling = c.args.self.now.caller in
    let between : Calling = c.next_tag.new.self in
    let new : Calling = c.ask.new.self in
    let tag : ℕ = c.in_ok-tag.tag in
    let now : ℤ = to_z w64 (of_z w64 c.args.now) in
    let raw : CallsOne between (event_of c.args.ask tag now) new = subst (λ (e : Event). CallsOne between e new) c.event_of.ensures c.in_ok-outcome.ensures.called in
    let own : CallsOne between (event_of c.args.ask tag c.args.now) new = subst (λ (n : ℤ). CallsOne between (event_of c.args.ask tag n) new) (to_z-of_z w64 c.args.now c.ranges.now) raw in
    let heard_of : keeping_of c.hear.new.self ≡ heard (session_of c.args.ask) c.args.now (keeping_of c.args.self.now.clients) = search rules in
    on_err _ c.from_residual-in_err-accepted.result (inr (
      subst (λ (n : ℕ). Calls old (event_of c.args.ask n c.args.now ∷ []) new) c.in_ok-tag.ensures.next
          (one_from old between new (event_of c.args.ask tag c.args.now) c.next_tag.ensures.same.0 c.next_tag.ensures.same.1 own),
      heard_of,
    ))

pub returns-clause-read : goal.returns-clause-read
returns-clause-read g c =
    let now : ℤ = to_z w64 (of_z w64 c.args.now) in
    let session : ℤ = to_z w64 (of_z w64 c.session_of-session.result) in
    let own : session ≡ session_of c.args.ask = search (rules, to_z-of_z) in
    told_read c.args.ask c.sought_by.result c.event_of.result c.in_ok-tag.tag now session c.ask.new.self.receipts c.in_ok-outcome.outcome c.event_of.ensures own c.in_ok-outcome.ensures.read
