use Rattle.std.proofs.Common.{◌≡◌, get_or, set, insert, sym, subst, ap, ◌∙◌}
use Rattle.zk_watch.specs.Watching.{IsWatchList, first_watch, joined, with_watch}
use Rattle.zk_watch.proofs.Kept.{set_kept}
use Rattle.zk_watch.proofs.watches.Watches.set.Goals as goal

pub invariant_of-self : goal.invariant_of-self
invariant_of-self c =
    let items = c.self.inside.entries.items in
    let new = first_watch c.args.session c.args.kind c.args.path.now in
    let joins : set items c.in-Ok.at c.join.new.self ≡ with_watch c.args.session c.args.kind c.args.path.now items =
    ap (set items c.in-Ok.at) (c.join.ensures ∙ ap (joined new) c.index_mut.ensures.value)
    ∙ ap (λ l. set l c.in-Ok.at (joined new (get_or l c.in-Ok.at c.index_mut.result.now))) (sym c.deref.ensures.value)
    ∙ sym (c.in-Ok.ensures.place c.args.kind c.index_mut.result.now)
    ∙ ap (with_watch c.args.session c.args.kind c.args.path.now) c.deref.ensures.value in
    subst IsWatchList (sym joins) (set_kept c.args.session c.args.kind c.args.path.now items c.self.invariant)

pub invariant_of-self-in-Continue-branch-2 : goal.invariant_of-self-in-Continue-branch-2
invariant_of-self-in-Continue-branch-2 c =
    let items = c.self.inside.entries.items in
    let goes : c.insert.new.self.items ≡ with_watch c.args.session c.args.kind c.args.path.now items =
    c.in_ok-insert-in-Err.ensures.items
    ∙ ap (insert items c.in-Err.at) (c.first.ensures ∙ ap (first_watch c.args.session c.args.kind) c.in_ok-path-in-Err.ensures)
    ∙ ap (λ l. insert l c.in-Err.at (first_watch c.args.session c.args.kind c.args.path.now)) (sym c.deref.ensures.value)
    ∙ sym (c.in-Err.ensures.place.0 c.args.kind)
    ∙ ap (with_watch c.args.session c.args.kind c.args.path.now) c.deref.ensures.value in
    subst IsWatchList (sym goes) (set_kept c.args.session c.args.kind c.args.path.now items c.self.invariant)
