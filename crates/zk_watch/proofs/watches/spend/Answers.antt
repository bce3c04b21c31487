use Rattle.std.proofs.Common.{◌≡◌, ◌-◌, ◌++◌, if◌then◌else◌, map, set, take, drop, append-nil, sym, ap, ap₂, ◌∙◌}
use Rattle.std.proofs.lemmas.List.{drop_all, take_all}
use Rattle.std.proofs.lemmas.List.Edits.{map_over_more}
use Rattle.std.specs.List.{slice_range}
use Rattle.zk_watch.specs.Watching.{spent, spent_by}
use Rattle.zk_watch.proofs.Ranges.{in_turn, written}
use Rattle.zk_watch.proofs.watches.spend.Goals as goal

pub slice_bounds-watch-items-count : goal.slice_bounds-watch-items-count
slice_bounds-watch-items-count c = in_turn c.args.change.now.path c.args.watches.now _ _ c.count_below-from.ensures.parted c.count_upto-to.ensures.parted c.count_below-from.ensures.within c.count_upto-to.ensures.within

pub slice_bounds-watch-items-start : goal.slice_bounds-watch-items-start
slice_bounds-watch-items-start c = in_turn c.args.change.now.path c.args.watches.now _ _ c.count_below-from.ensures.parted c.count_upto-to.ensures.parted c.count_below-from.ensures.within c.count_upto-to.ensures.within

pub loop-watch-preserved : goal.loop-watch-preserved
loop-watch-preserved c =
    ap (λ w. set c.loop-watch.watch-items c.loop-watch.watch-index w) (c.spend.ensures ∙ ap (spent c.args.change.now.kind) (sym c.watch-item.is))
    ∙ map_over_more (spent c.args.change.now.kind) (slice_range c.args.watches.now c.count_below-from.result c.count_upto-to.result) c.loop-watch.watch-items c.loop-watch.watch-index c.watch-item.result c.loop-watch-test.true c.loop-watch.invariant c.watch-item.is

pub returns : goal.returns
returns c =
    let from = c.count_below-from.result in
    let to = c.count_upto-to.result in
    let part = slice_range c.args.watches.now from to in
    let all : c.loop-watch.watch-items ≡ map (spent c.args.change.now.kind) part =
    c.loop-watch.invariant
    ∙ ap₂ (λ front back. map (spent c.args.change.now.kind) front ++ back) (take_all c.loop-watch.watch-index part c.loop-watch-test.false) (drop_all c.loop-watch.watch-index part c.loop-watch-test.false)
    ∙ append-nil _ in
    ap (λ l. take from c.args.watches.now ++ (l ++ drop (to - from) (drop from c.args.watches.now))) all
    ∙ written c.args.change.now.path c.args.watches.now from to c.count_below-from.ensures.parted c.count_upto-to.ensures.parted c.count_below-from.ensures.within c.count_upto-to.ensures.within (spent c.args.change.now.kind) (spent_by c.args.change.now)
    (λ w at. ap (λ b. if b then spent c.args.change.now.kind w else w) at)
    (λ w not_at. ap (λ b. if b then spent c.args.change.now.kind w else w) not_at)
