use Rattle.std.proofs.Common.{inr, rules, arith, ◌≡◌, ◌++◌, ◌∷◌, [], All, List, Vec, Global, map, sym, ap, subst, ◌∙◌}
use Rattle.std.proofs.lemmas.List.{map-append}
use Rattle.zk_views.specs.declared.published_view.PublishedView.{PublishedView}
use Rattle.zk_views.specs.Catching.{IsUnpublished, AreOfOneView}
use Rattle.zk_views.proofs.Pushes.{all_push}
use Rattle.zk_views.proofs.published_view.read_views.Goals as goal
use Rattle.zk_views.specs.declared.reader.Reader.{Reader}
use Rattle.zk_views.specs.Views.{Entering}

pub loop-preserved : goal.loop-preserved
loop-preserved g c =
    let views : List PublishedView = c.loop.views.items in
    let all : List (Vec Reader Global) = c.loop.all.items in
    let kept : PublishedView = c.new.result in
    let items : Vec Reader Global → List Entering = λ list. list.items in
    let empty : IsUnpublished kept = (c.in-Ok.publisher.table, ap (λ (k : PublishedView). k.publisher.value) c.new.ensures ∙ c.in-Ok.ensures.publisher, ap (λ (k : PublishedView). k.late) c.new.ensures) in
    let put : c.push_reserved.new.self.items ≡ views ++ kept ∷ [] = c.push_reserved.ensures.items in
    let more : c.push_reserved-in-Ok.new.self.items ≡ all ++ c.in-Ok.ends ∷ [] = c.push_reserved-in-Ok.ensures.items in
    let listed : map items c.push_reserved-in-Ok.new.self.items ≡ map items all ++ c.in-Ok.ends.items ∷ [] = ap (map items) more ∙ map-append items all (c.in-Ok.ends ∷ []) in (
      subst (All IsUnpublished) (sym put) (all_push IsUnpublished views kept c.loop.invariant.0 empty),
      search rules,
      subst (All (AreOfOneView c.args.readers)) (sym listed) (all_push (AreOfOneView c.args.readers) (map items all) c.in-Ok.ends.items c.loop.invariant.2 (c.in-Ok.publisher.table, c.in-Ok.ensures.readers)),
      search rules,
      search rules,
      search rules,
    )

pub returns-clause-each : goal.returns-clause-each
returns-clause-each g c = inr (omega (arith, c.loop.invariant.3))
