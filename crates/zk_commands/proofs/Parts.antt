-- The lines of a tree's entries in a part of it are those of its nodes there.
use Rattle.std.proofs.Common.{◌≡◌, ℕ, suc, ◌+◌, arith, [], ◌∷◌, ◌++◌, List, Some, map, length, take, true, sym, ap, ◌∙◌, cond, append-nil}
use Rattle.std.proofs.Math.Seq.{take-suc}
use Rattle.std.proofs.lemmas.Grind.{flat_map-append}
use Rattle.std.proofs.lemmas.Option.{get_or_from_slice_get, slice_get_within}
use Rattle.std.specs.Prelude.{slice_get}
use Rattle.std.proofs.lemmas.List.Folds.{flat_map-map}
use Rattle.std.specs.FinMap as finite
use Rattle.std.specs.List.{flat_map}
use Rattle.zk_debug.specs.Breakpoints.{is_in}
use Rattle.zk_format.specs.Reports.{node_line}
use Rattle.zk_listing.specs.Reports.{line}
use Rattle.zk_table.specs.declared.node.Node.{Node}
use Rattle.zk_table.specs.Nodes.{stat_with}
use Rattle.zk_table.specs.States.{NodeMap, children_of}
use Rattle.zk_tree.specs.declared.entry.Entry.{Entry}
use Rattle.zk_tree.specs.Entries.{lent, entries_of}
use Rattle.zk_commands.specs.Shown.{entry_in, line_in}

abbrev lent_in : List ℕ → List ℕ × (Node × ℕ) → List ℕ
lent_in path l = cond (is_in path true l.0) (line (node_line l.0 l.1.0 (stat_with l.1.0 l.1.1))) []

abbrev with_count : NodeMap → List ℕ × Node → List ℕ × (Node × ℕ)
with_count nodes e = (e.0, (e.1, length (children_of nodes e.0)))

pub lines_in : (path : List ℕ) (nodes : NodeMap) (es : List Entry) → map lent es ≡ entries_of nodes → flat_map (entry_in path) es ≡ flat_map (line_in path nodes) (finite.entries nodes)
lines_in path nodes es h =
    sym (flat_map-map (lent_in path) lent es) ∙ ap (flat_map (lent_in path)) h ∙ flat_map-map (lent_in path) (with_count nodes) (finite.entries nodes)

-- one more entry's line
pub one_more_line : {X : Type 0} (f : X → List ℕ) (es : List X) (at : ℕ) (e : X) → slice_get es at ≡ Some e → flat_map f (take at es) ++ f e ≡ flat_map f (take (at + 1) es)
one_more_line f es at e h =
    let taken : take (suc at) es ≡ take at es ++ e ∷ [] = take-suc es at e (slice_get_within es at e h) ∙ ap (λ x. take at es ++ x ∷ []) (get_or_from_slice_get es at e e h) in
    let next : at + 1 ≡ suc at = omega arith in
    sym (ap (λ n. flat_map f (take n es)) next ∙ ap (flat_map f) taken ∙ flat_map-append f (take at es) (e ∷ []) ∙ ap (λ (l : List ℕ). flat_map f (take at es) ++ l) (append-nil (f e)))
