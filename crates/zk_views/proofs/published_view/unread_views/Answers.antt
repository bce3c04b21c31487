use Rattle.std.proofs.Common.{inl, rules, ◌≡◌, ◌++◌, ◌∷◌, [], All, List, Vec, Global, map, sym, ap, subst, ◌∙◌, refl}
use Rattle.std.proofs.lemmas.List.{map-append}
use Rattle.zk_views.specs.Catching.{AreOfOneView}
use Rattle.zk_views.proofs.Pushes.{all_push}
use Rattle.zk_views.proofs.published_view.unread_views.Goals as goal
use Rattle.zk_views.specs.declared.reader.Reader.{Reader}
use Rattle.zk_views.specs.Views.{Entering}

-- no reader belongs to any view
nobody : AreOfOneView 0 []
nobody = (record { words = 0; slots = 0; views_name = 0; atom = 0; block = 0; offset = 0; slot_names = [] }, refl)

pub loop-preserved : goal.loop-preserved
loop-preserved c =
    let all : List (Vec Reader Global) = c.loop.readers.items in
    let items : Vec Reader Global → List Entering = λ list. list.items in
    let more : c.push_reserved.new.self.items ≡ all ++ c.new.result ∷ [] = c.push_reserved.ensures.items in
    let empty : c.new.result.items ≡ [] = search rules in
    let listed : map items c.push_reserved.new.self.items ≡ map items all ++ [] ∷ [] =
    ap (map items) more ∙ map-append items all (c.new.result ∷ []) ∙ ap (λ (last : List Entering). map items all ++ last ∷ []) empty in (
      search rules,
      subst (All (AreOfOneView 0)) (sym listed) (all_push (AreOfOneView 0) (map items all) [] c.loop.invariant.1 nobody),
      search rules,
    )

pub returns-clause-each : goal.returns-clause-each
returns-clause-each c = inl (search rules)
