use Rattle.std.proofs.Common.{◌≡◌, ◌++◌, ◌∷◌, [], map, None, true, is_some, unwrap_or, append_assoc, sym, ap, ◌∙◌}
use Rattle.std.proofs.lemmas.Bool.{false≢true}
use Rattle.std.proofs.lemmas.List.{append-nil}
use Rattle.std.specs.FinMap as finite
use Rattle.std.specs.List.{list_any}
use Rattle.std.specs.Option.{option_map}
use Rattle.std.specs.Ordering.{eq_by_cmp}
use Rattle.std.specs.String.{string_bytes}
use Rattle.zk_table.specs.States.{path_cmp}
use Rattle.zk_tree.proofs.Lists.{any_middle, keys-set_of}
use Rattle.zk_fold.proofs.node_table.NodeTable.paths_of.Goals as goal

pub loop-text-init : goal.loop-text-init
loop-text-init c =
    ap (λ xs. xs ++ map string_bytes c.into_iter-text-iterator.result) c.new-paths.ensures.items
    ∙ ap (map string_bytes) (c.into_iter-text-iterator.ensures.into_iter_gives ∙ c.iter-text-items.ensures.rest)
    ∙ sym (keys-set_of c.set.inside.texts c.iter-text-items.ensures.ordered)
    ∙ ap finite.keys c.set.view_is

pub unreachable-requires : goal.unreachable-requires
unreachable-requires c =
    let q = string_bytes c.in-Some.text.now in
    let left : c.loop-text.paths.items ++ q ∷ map string_bytes c.next.new.self ≡ finite.keys c.args.set.now = ap (λ xs. c.loop-text.paths.items ++ map string_bytes xs) (sym c.in-Some.ensures.steps) ∙ c.loop-text.invariant in
    let there : finite.contains_key c.args.set.now q ≡ true = finite.contains_key-keys c.args.set.now q ∙ ap (list_any (eq_by_cmp path_cmp q)) (sym left) ∙ any_middle q c.loop-text.paths.items (map string_bytes c.next.new.self) in
    let none : finite.get c.args.self.now q ≡ None = ap (finite.get c.args.self.now) (sym c.deref.ensures) ∙ sym c.in_default.ensures in
    false≢true (ap is_some (sym (ap (option_map (λ s. s.path)) none) ∙ c.requires.kept q there))

pub loop-text-preserved : goal.loop-text-preserved
loop-text-preserved c =
    let q = string_bytes c.in-Some.text.now in
    let left : c.loop-text.paths.items ++ q ∷ map string_bytes c.next.new.self ≡ finite.keys c.args.set.now = ap (λ xs. c.loop-text.paths.items ++ map string_bytes xs) (sym c.in-Some.ensures.steps) ∙ c.loop-text.invariant in
    let there : finite.contains_key c.args.set.now q ≡ true = finite.contains_key-keys c.args.set.now q ∙ ap (list_any (eq_by_cmp path_cmp q)) (sym left) ∙ any_middle q c.loop-text.paths.items (map string_bytes c.next.new.self) in
    let same : c.in-Some-get.place.now.path ≡ q = ap (λ o. unwrap_or o q) (ap (option_map (λ s. s.path)) (c.in-Some-get.ensures ∙ ap (finite.get c.args.self.now) c.deref.ensures) ∙ c.requires.kept q there) in
    ap (λ xs. xs ++ map string_bytes c.next.new.self) c.in_ok-push.ensures.items
    ∙ append_assoc c.loop-text.paths.items (c.in_ok-copy.field-0 ∷ []) (map string_bytes c.next.new.self)
    ∙ ap (λ p. c.loop-text.paths.items ++ p ∷ map string_bytes c.next.new.self) (c.in_ok-copy.ensures ∙ same)
    ∙ left

pub returns : goal.returns
returns c =
    sym (append-nil c.loop-text.paths.items)
    ∙ ap (λ xs. c.loop-text.paths.items ++ map string_bytes xs) (sym c.in-None.ensures.steps.0)
    ∙ c.loop-text.invariant
