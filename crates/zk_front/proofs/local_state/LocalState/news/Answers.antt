use Rattle.std.proofs.Common.{◌≡◌, ℕ, ℤ, Some, length, w64, to_z, of_z, ap, subst, ◌∙◌}
use Rattle.std.proofs.lemmas.Int.{to_z-of_z}
use Rattle.std.specs.BTreeMap.{Updates}
use Rattle.std.specs.Ordering.{int_cmp}
use Rattle.zk_ensemble.specs.Outcomes.{news_of}
use Rattle.zk_ensemble.specs.Views.{events_in}
use Rattle.zk_front.specs.Locals.{home_of, cursor_of}
use Rattle.zk_front.proofs.local_state.LocalState.news.Goals as goal

pub returns-in-Ok-clause-ok : goal.returns-in-Ok-clause-ok
returns-in-Ok-clause-ok c =
    let same : to_z w64 (of_z w64 c.args.session) ≡ c.args.session = to_z-of_z w64 c.args.session c.ranges.session in
    let events = events_in (home_of c.args.self.now.servers.ensemble) in
    c.new.ensures ∙ c.in_ok-events.ensures
    ∙ ap (λ (s : ℤ). news_of s c.cursor_of-from.result events) same
    ∙ ap (λ (n : ℕ). news_of c.args.session n events) (c.cursor_of-from.ensures ∙ ap (λ (s : ℤ). cursor_of c.args.self.now.told s) same)

pub returns-in-Ok-clause-told : goal.returns-in-Ok-clause-told
returns-in-Ok-clause-told c =
    let same : to_z w64 (of_z w64 c.args.session) ≡ c.args.session = to_z-of_z w64 c.args.session c.ranges.session in
    subst (λ (n : ℕ). Updates int_cmp c.args.self.now.told c.insert.new.self c.args.session (Some n)) (ap length c.events_of-count.ensures)
    (subst (λ (s : ℤ). Updates int_cmp c.args.self.now.told c.insert.new.self s (Some (length c.events_of-count.result.now))) same c.in-Ok.ensures.updates)
