-- The map of nodes after a change of one node at its place.
use Rattle.std.proofs.Common.{◌≡◌, ℕ, List, get_or, set, Some, None, Ok, Err, sym, ap, ◌∙◌, IsTrue}
use Rattle.std.proofs.lemmas.Cmp.{nat_list_cmp_total}
use Rattle.std.specs.FinMap.{IsAntisymmetric, slice_cmp-IsAntisymmetric, nat_cmp-IsAntisymmetric, entries, from_sorted, is_sorted, get}
use Rattle.std.specs.FinMap as finite
use Rattle.zk_table.specs.declared.node.Node.{Node}
use Rattle.zk_table.specs.Places.{position_of}
use Rattle.zk_table.specs.States.{NodeMap, path_cmp, changed, changed_found}
use Rattle.zk_table.proofs.Sorted.{entries_of_kept, found_at_place, missing_at_place, entries_set}

module _ (es : List (List ℕ × Node)) (m : NodeMap) (path : List ℕ) (sorted : IsTrue (is_sorted path_cmp es)) (view : from_sorted {R = path_cmp} es ≡ m) where
  -- the node read at the position of a path is the path's
  pub found_there : (i : ℕ) (e : List ℕ × Node) → position_of path_cmp path es ≡ Ok i → e ≡ get_or es i e → get m path ≡ Some e.1
  found_there i e p read = found_at_place nat_list_cmp_total es m path i e (entries_of_kept path_cmp es m sorted view) p ∙ ap (λ x. Some x.1) (sym read)

  pub missing_there : (i : ℕ) → position_of path_cmp path es ≡ Err i → get m path ≡ None
  missing_there i p = missing_at_place nat_list_cmp_total es m path i (entries_of_kept path_cmp es m sorted view) p

  pub entries_replaced : (i : ℕ) (e : List ℕ × Node) (new : Node) → position_of path_cmp path es ≡ Ok i → e ≡ get_or es i e → set es i (e.0, new) ≡ entries (finite.insert m path new)
  entries_replaced i e new p read =
      ap (λ x. set es i (x.0, new)) read ∙ entries_set nat_list_cmp_total es m path new i e (entries_of_kept path_cmp es m sorted view) p

  pub entries_changed : (change : Node → Node) (i : ℕ) (e : List ℕ × Node) (new : Node) → position_of path_cmp path es ≡ Ok i → e ≡ get_or es i e → new ≡ change e.1 → set es i (e.0, new) ≡ entries (changed m path change)
  entries_changed change i e new p read is =
      entries_replaced i e new p read ∙ ap (λ x. entries (finite.insert m path x)) is ∙ ap (λ o. entries (changed_found m path change o)) (sym (found_there i e p read))

  pub unchanged_missing : (change : Node → Node) (i : ℕ) → position_of path_cmp path es ≡ Err i → m ≡ changed m path change
  unchanged_missing change i p = ap (changed_found m path change) (sym (missing_there i p))

pub path_cmp-IsAntisymmetric : IsAntisymmetric path_cmp
path_cmp-IsAntisymmetric = slice_cmp-IsAntisymmetric nat_cmp-IsAntisymmetric
