use Rattle.std.proofs.Common.{◌≡◌, ◌+◌, ◌∷◌, ◌++◌, append_assoc, length, take, drop, map, filter, true, false, rules, sym, subst, ap, ap₂, ◌∙◌}
use Rattle.std.proofs.lemmas.Fn.{filter_same}
use Rattle.std.specs.List.Sorted.{IsStrictlySortedBy}
use Rattle.std.proofs.lemmas.List.{at_drop_more, drop_all, length-map}
use Rattle.zk_watch.specs.Watching.{IsWatchList, watch_cmp, is_live, spent_by, told_by, fired_by, left_after}
use Rattle.zk_watch.proofs.Kept.{live_kept, ordered_spent}
use Rattle.zk_watch.proofs.Live.{all_live, told_live, after_live, lent_back}
use Rattle.zk_watch.proofs.Quiet.{quiet_told, quiet_left, not_quiet, are_hit}
use Rattle.zk_watch.proofs.watches.Watches.fire.Goals as goal

pub returns-then-not-are_hit-clause-told : goal.returns-then-not-are_hit-clause-told
returns-then-not-are_hit-clause-told c =
    let unhit : are_hit c.self.inside.entries.items c.args.changes.now ≡ false = ap (λ l. are_hit l c.args.changes.now) (sym c.deref.ensures.value) ∙ sym c.are_hit.ensures ∙ c.if-not-are_hit.true in
    c.new-told.ensures.items ∙ sym (ap (fired_by c.args.changes.now) (sym c.self.view_is) ∙ quiet_told c.args.changes.now c.self.inside.entries.items unhit c.self.invariant.live)

pub returns-then-not-are_hit-clause-left : goal.returns-then-not-are_hit-clause-left
returns-then-not-are_hit-clause-left c =
    let unhit : are_hit c.self.inside.entries.items c.args.changes.now ≡ false = ap (λ l. are_hit l c.args.changes.now) (sym c.deref.ensures.value) ∙ sym c.are_hit.ensures ∙ c.if-not-are_hit.true in
    sym (ap (left_after c.args.changes.now) (sym c.self.view_is) ∙ quiet_left c.args.changes.now c.self.inside.entries.items unhit c.self.invariant.live ∙ c.self.view_is)

pub returns-in_err-left-clause-quiet : goal.returns-in_err-left-clause-quiet
returns-in_err-left-clause-quiet c none =
    let hit : are_hit c.self.inside.entries.items c.args.changes.now ≡ true = ap (λ l. are_hit l c.args.changes.now) (sym c.deref.ensures.value) ∙ sym c.are_hit.ensures ∙ c.if-not-are_hit.false in
    absurd (not_quiet c.args.changes.now c.self.inside.entries.items hit c.self.invariant.live (ap (fired_by c.args.changes.now) c.self.view_is ∙ none))

pub returns-in_err-tell-clause-quiet : goal.returns-in_err-tell-clause-quiet
returns-in_err-tell-clause-quiet c none =
    let hit : are_hit c.self.inside.entries.items c.args.changes.now ≡ true = ap (λ l. are_hit l c.args.changes.now) (sym c.deref.ensures.value) ∙ sym c.are_hit.ensures ∙ c.if-not-are_hit.false in
    absurd (not_quiet c.args.changes.now c.self.inside.entries.items hit c.self.invariant.live (ap (fired_by c.args.changes.now) c.self.view_is ∙ none))

pub loop-change-init : goal.loop-change-init
loop-change-init c =
    let whole : filter is_live c.in_ok-left.left.items ≡ c.self.inside.entries.items = ap (filter is_live) c.in_ok-left.ensures ∙ all_live c.self.inside.entries.items c.self.invariant.live in
    record {
      told = ap₂ (λ told left. told ++ fired_by c.args.changes.now left) c.new-told.ensures.items whole;
      left = ap (left_after c.args.changes.now) whole;
      ordered = subst (IsStrictlySortedBy watch_cmp) (sym c.in_ok-left.ensures) c.self.invariant.ordered;
    }

pub loop-change-preserved : goal.loop-change-preserved
loop-change-preserved c =
    let change = c.change-item.result in
    let told = c.loop-change.told.items in
    let before = c.loop-change.left.items in
    let behind = drop (c.loop-change.change-index + 1) c.args.changes.now in
    let next : change ∷ behind ≡ drop c.loop-change.change-index c.args.changes.now =
    ap (λ x. x ∷ behind) c.change-item.is
    ∙ sym (at_drop_more (λ l. l) c.args.changes.now c.loop-change.change-index change c.loop-change-test.true) in
    let first : c.tell.new.told.items ≡ told ++ told_by change before = c.in_ok-tell.ensures ∙ ap (λ l. told ++ told_by change l) c.deref-in-loop-change.ensures.value in
    let spends : c.spend.new.watches ≡ map (spent_by change) before = c.spend.ensures ∙ ap (map (spent_by change)) c.deref_mut.ensures.value in
    let back : take c.loop-change.left.len (c.spend.new.watches ++ drop (length c.spend.new.watches) before) ≡ map (spent_by change) before =
    lent_back c.loop-change.left.len c.spend.new.watches before (ap length spends ∙ length-map before (spent_by change)) (sym c.deref_mut.ensures.len ∙ ap length c.deref_mut.ensures.value)
    ∙ spends in
    record {
      told =
          ap₂ (λ told left. told ++ fired_by behind (filter is_live left)) first back
          ∙ append_assoc told (told_by change before) (fired_by behind (filter is_live (map (spent_by change) before)))
          ∙ ap₂ (λ first left. told ++ (first ++ fired_by behind left)) (sym (told_live change before)) (sym (after_live change before))
          ∙ ap (λ l. told ++ fired_by l (filter is_live before)) next
          ∙ c.loop-change.invariant.told;
      left =
          ap (λ l. left_after behind (filter is_live l)) back
          ∙ ap (left_after behind) (sym (after_live change before))
          ∙ ap (λ l. left_after l (filter is_live before)) next
          ∙ c.loop-change.invariant.left;
      ordered = subst (IsStrictlySortedBy watch_cmp) (sym back) (ordered_spent change before c.loop-change.invariant.ordered);
    }

pub invariant_of-self : goal.invariant_of-self
invariant_of-self c =
    let kept : c.retain.new.self.items ≡ filter is_live c.loop-change.left.items = filter_same _ is_live _ (λ x b f' k. search rules) c.loop-change.left.items c.retain.new.self.items c.retain.ensures.filtered in
    subst IsWatchList (sym kept) (live_kept c.loop-change.left.items c.loop-change.invariant.ordered)

pub returns-clause-left : goal.returns-clause-left
returns-clause-left c =
    filter_same _ is_live _ (λ x b f' k. search rules) c.loop-change.left.items c.retain.new.self.items c.retain.ensures.filtered
    ∙ sym (ap (λ cs. left_after cs (filter is_live c.loop-change.left.items)) (drop_all c.loop-change.change-index c.args.changes.now c.loop-change-test.false))
    ∙ c.loop-change.invariant.left
    ∙ ap (left_after c.args.changes.now) c.self.view_is
