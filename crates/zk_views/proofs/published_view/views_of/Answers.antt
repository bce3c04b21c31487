use Rattle.std.proofs.Common.{rules, ◌≡◌, ℕ, All, map, sym, subst}
use Rattle.std.specs.Prelude.{IfOk}
use Rattle.zk_views.specs.declared.published_view.Viewed.{Viewed}
use Rattle.zk_views.specs.Catching.{AreOfOneView}
use Rattle.zk_views.proofs.published_view.views_of.Goals as goal

pub returns-then-readers-eq0-clause-readers : goal.returns-then-readers-eq0-clause-readers
returns-then-readers-eq0-clause-readers g c =
    let none : c.args.readers ≡ 0 = search (rules, c.if-readers-eq0.true) in
    subst (λ (n : ℕ). IfOk c.unread_views.result (λ (it : Viewed). All (AreOfOneView n) (map (λ list. list.items) it.readers.items))) (sym none) c.unread_views.ensures.readers
