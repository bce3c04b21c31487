-- The preimages of several instructions together.
use Rattle.std.proofs.Common.{◌≡◌, ℕ, Bool, true, false, cond, List, [], ◌∷◌, Option, Some, None, is_some, refl, sym, ap, ◌∙◌}
use Rattle.std.proofs.lemmas.Bool.{false≢true}
use Rattle.std.proofs.lemmas.Cmp.{nat_list_cmp_total}
use Rattle.std.specs.FinMap as finite
use Rattle.std.specs.FinMap.{find}
use Rattle.std.specs.Ordering.{eq_by_cmp}
use Rattle.zk_table.specs.declared.node.Node.{Node}
use Rattle.zk_table.specs.States.{NodeMap, path_cmp}
use Rattle.zk_machine.proofs.Texts.{path_cmp-IsAntisymmetric}
use Rattle.zk_machine.proofs.Texts.{same_is}
use Rattle.zk_machine.specs.Undoing.{PreimageMap, all_put_back}
use Rattle.zk_machine.specs.Preimages.{Preimage, noted, all_noted}
use Rattle.zk_machine.proofs.PreimageLaws.{was, get-all_put_back}

was_there : (x : Option (Option Node)) (a b : Option Node) → is_some x ≡ true → was x a ≡ was x b
was_there None a b e = absurd (false≢true e)
was_there (Some x) a b e = refl

was_missing : (x : Option (Option Node)) (a : Option Node) → is_some x ≡ false → a ≡ was x a
was_missing None a e = refl
was_missing (Some x) a e = absurd (false≢true (sym e))

get-noted : (t : PreimageMap) (path : List ℕ) (before : Option Node) (q : List ℕ) (x : Option Node) → was (finite.get (noted t path before) q) x ≡ was (finite.get t q) (cond (eq_by_cmp path_cmp q path) before x)
get-noted t path before q x = by_note _ refl
  where
    at_path : (b : Bool) → eq_by_cmp path_cmp q path ≡ b → finite.contains_key t path ≡ true → was (finite.get t q) x ≡ was (finite.get t q) (cond b before x)
    at_path true s h = was_there (finite.get t q) _ _ (ap (λ k. is_some (finite.get t k)) (same_is q path s) ∙ h)
    at_path false s h = refl

    new_path : (b : Bool) → eq_by_cmp path_cmp q path ≡ b → finite.contains_key t path ≡ false → was (cond b (Some before) (finite.get t q)) x ≡ was (finite.get t q) (cond b before x)
    new_path true s h = was_missing (finite.get t q) before (ap (λ k. is_some (finite.get t k)) (same_is q path s) ∙ h)
    new_path false s h = refl

    by_note : (b : Bool) → finite.contains_key t path ≡ b → was (finite.get (cond b t (finite.insert t path before)) q) x ≡ was (finite.get t q) (cond (eq_by_cmp path_cmp q path) before x)
    by_note true h = at_path _ refl h
    by_note false h = ap (λ y. was y x) (finite.get-insert nat_list_cmp_total t path before q) ∙ new_path _ refl h

get-all_noted : (t : PreimageMap) (notes : List Preimage) (q : List ℕ) (x : Option Node) → was (finite.get (all_noted t notes) q) x ≡ was (finite.get t q) (was (find path_cmp q notes) x)
get-all_noted t [] q x = refl
get-all_noted t (note ∷ notes) q x =
    get-all_noted (noted t note.0 note.1) notes q x
    ∙ get-noted t note.0 note.1 q (was (find path_cmp q notes) x)
    ∙ ap (was (finite.get t q)) (elim (eq_by_cmp path_cmp q note.0) as (λ b. cond b note.1 (was (find path_cmp q notes) x) ≡ was (cond b (Some note.1) (find path_cmp q notes)) x) [ true ↦ refl | false ↦ refl ])

get-touched : (t : PreimageMap) (m : NodeMap) (q : List ℕ) → finite.get (all_put_back (finite.entries t) m) q ≡ was (finite.get t q) (finite.get m q)
get-touched t m q = get-all_put_back (finite.entries t) m q ∙ ap (λ x. was x (finite.get m q)) (sym (finite.get-entries t q))

-- restoring later preimages first, and then the older ones
pub back_merged : (t : PreimageMap) (notes : List Preimage) (m : NodeMap) → all_put_back (finite.entries (all_noted t notes)) m ≡ all_put_back (finite.entries t) (all_put_back notes m)
back_merged t notes m = finite.same_map nat_list_cmp_total path_cmp-IsAntisymmetric _ _ (λ q. get-touched (all_noted t notes) m q
    ∙ get-all_noted t notes q (finite.get m q)
    ∙ ap (was (finite.get t q)) (sym (get-all_put_back notes m q))
    ∙ sym (get-touched t (all_put_back notes m) q))
