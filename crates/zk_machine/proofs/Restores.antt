-- Restoring preimages into a tree: a node may be removed only without children, put only below an
-- existing parent, and replaced only by one of the same owner.
use Rattle.std.proofs.Common.{◌≡◌, ℕ, ℤ, pos, Bool, true, false, cond, not, ◌&&◌, List, [], ◌∷◌, ◌++◌, length, get_or, take, drop, zero, suc, add-one, ◌+◌, ◌-◌, ◌<◌, ◌≤◌, arith, Option, Some, None, is_some, IsSome, unwrap_or, refl, sym, ap, subst, ◌∙◌, codes, is_lt, is_eq, Less, Equal, Greater}
use Rattle.std.proofs.lemmas.Bool.{false≢true, and_parts, and_from}
use Rattle.std.proofs.lemmas.Bool.Decides.{Decides-int_eq, Decides-eqb}
use Rattle.std.proofs.lemmas.Cmp.{nat_list_cmp_total, eq_by_cmp_equiv}
use Rattle.std.specs.declared.cmp.Ordering.{Ordering}
use Rattle.std.specs.FinMap as finite
use Rattle.std.specs.FinMap.{find, is_sorted}
use Rattle.std.specs.Option.{option_map}
use Rattle.std.specs.Ordering.{eq_by_cmp, int_eq}
use Rattle.zk_path.specs.Paths.{parent_of}
use Rattle.zk_table.specs.declared.node.Node.{Node}
use Rattle.zk_table.specs.States.{NodeMap, path_cmp, children_of}
use Rattle.zk_machine.specs.Preimages.{Preimage}
use Rattle.zk_machine.specs.Restoring.{must_go, cleared_at, cleared, filled_at, filled, begins_with_slash, all_begin}
use Rattle.zk_tree.specs.Trees.{IsTree, owner_at}
use Rattle.zk_machine.specs.Undoing.{all_put_back, IsState}
use Rattle.zk_machine.proofs.Families.{childless, has_parent, same_itself}
use Rattle.zk_machine.proofs.PreimageLaws.{was, get-all_put_back}
use Rattle.zk_machine.proofs.Orders.{parent_less, children_go}
use Rattle.zk_machine.proofs.Texts.{same_is, path_cmp-IsAntisymmetric}

-- ---- look-ups among sorted preimages

abbrev below_all : List ℕ → List Preimage → Bool
below_all x [] = true
below_all x (e ∷ es) = is_lt (path_cmp x e.0) && below_all x es

ordered : (r : Ordering) → is_lt r ≡ true → r ≡ Less
ordered Less e = refl
ordered Equal e = absurd (false≢true e)
ordered Greater e = absurd (false≢true e)

apart : (x q : List ℕ) → path_cmp x q ≡ Less → eq_by_cmp path_cmp q x ≡ false
apart x q h = (eq_by_cmp_equiv nat_list_cmp_total).symm q x ∙ ap is_eq h

find_least : (x : List ℕ) (es : List Preimage) → below_all x es ≡ true → find path_cmp x es ≡ None
find_least x [] h = refl
find_least x (e ∷ es) h = ap (λ r. cond (is_eq r) (Some e.1) (find path_cmp x es)) (ordered _ (and_parts _ _ h).0) ∙ find_least x es (and_parts _ _ h).1

find_less : (q x : List ℕ) (es : List Preimage) → path_cmp q x ≡ Less → below_all x es ≡ true → find path_cmp q es ≡ None
find_less q x [] less h = refl
find_less q x (e ∷ es) less h =
    ap (λ r. cond (is_eq r) (Some e.1) (find path_cmp q es)) (nat_list_cmp_total.trans q x e.0 less (ordered _ (and_parts _ _ h).0))
    ∙ find_less q x es less (and_parts _ _ h).1

module _ (e : Preimage) (rest : List Preimage) where
  mid_above : (x : List ℕ) (front : List Preimage) → below_all x (front ++ e ∷ rest) ≡ true → path_cmp x e.0 ≡ Less
  mid_above x [] h = ordered _ (and_parts _ _ h).0
  mid_above x (y ∷ front) h = mid_above x front (and_parts _ _ h).1

  rest_above : (front : List Preimage) → is_sorted path_cmp (front ++ e ∷ rest) ≡ true → below_all e.0 rest ≡ true
  rest_above [] h = (and_parts _ _ h).0
  rest_above (x ∷ front) h = rest_above front (and_parts _ _ h).1

  find_at : (front : List Preimage) → is_sorted path_cmp (front ++ e ∷ rest) ≡ true → find path_cmp e.0 (front ++ e ∷ rest) ≡ Some e.1
  find_at [] h = ap (λ b. cond b (Some e.1) (find path_cmp e.0 rest)) (same_itself e.0)
  find_at (x ∷ front) h =
      ap (λ b. cond b (Some x.1) (find path_cmp e.0 (front ++ e ∷ rest))) (apart x.0 e.0 (mid_above x.0 front (and_parts _ _ h).0))
      ∙ find_at front (and_parts _ _ h).1

  find_not_before : (front : List Preimage) → is_sorted path_cmp (front ++ e ∷ rest) ≡ true → find path_cmp e.0 front ≡ None
  find_not_before [] h = refl
  find_not_before (x ∷ front) h =
      ap (λ b. cond b (Some x.1) (find path_cmp e.0 front)) (apart x.0 e.0 (mid_above x.0 front (and_parts _ _ h).0))
      ∙ find_not_before front (and_parts _ _ h).1

  find_behind : (q : List ℕ) → path_cmp e.0 q ≡ Less → (front : List Preimage) → is_sorted path_cmp (front ++ e ∷ rest) ≡ true → find path_cmp q (front ++ e ∷ rest) ≡ find path_cmp q rest
  find_behind q less [] h = ap (λ b. cond b (Some e.1) (find path_cmp q rest)) (apart e.0 q less)
  find_behind q less (x ∷ front) h =
      ap (λ b. cond b (Some x.1) (find path_cmp q (front ++ e ∷ rest))) (apart x.0 q (nat_list_cmp_total.trans x.0 e.0 q (mid_above x.0 front (and_parts _ _ h).0) less))
      ∙ find_behind q less front (and_parts _ _ h).1

  find_before : (q : List ℕ) → path_cmp q e.0 ≡ Less → (front : List Preimage) → is_sorted path_cmp (front ++ e ∷ rest) ≡ true → find path_cmp q (front ++ e ∷ rest) ≡ find path_cmp q front
  find_before q less [] h = ap (λ r. cond (is_eq r) (Some e.1) (find path_cmp q rest)) less ∙ find_less q e.0 rest less (and_parts _ _ h).0
  find_before q less (x ∷ front) h = ap (cond (eq_by_cmp path_cmp q x.0) (Some x.1)) (find_before q less front (and_parts _ _ h).1)

  front_in_order : (front : List Preimage) → is_sorted path_cmp (front ++ e ∷ rest) ≡ true → is_sorted path_cmp front ≡ true
  front_in_order [] h = refl
  front_in_order (x ∷ front) h = and_from _ _ (below_front x.0 front (and_parts _ _ h).0) (front_in_order front (and_parts _ _ h).1)
    where
      below_front : (x : List ℕ) (front : List Preimage) → below_all x (front ++ e ∷ rest) ≡ true → below_all x front ≡ true
      below_front x [] h = refl
      below_front x (y ∷ front) h = and_from _ _ (and_parts _ _ h).0 (below_front x front (and_parts _ _ h).1)

  rest_in_order : (front : List Preimage) → is_sorted path_cmp (front ++ e ∷ rest) ≡ true → is_sorted path_cmp rest ≡ true
  rest_in_order [] h = (and_parts _ _ h).1
  rest_in_order (x ∷ front) h = rest_in_order front (and_parts _ _ h).1

  mid_begins : (front : List Preimage) → all_begin (front ++ e ∷ rest) ≡ true → begins_with_slash e.0 ≡ true
  mid_begins [] h = (and_parts _ _ h).0
  mid_begins (x ∷ front) h = mid_begins front (and_parts _ _ h).1

split_at : (es : List Preimage) (i : ℕ) (e : Preimage) → i < length es → get_or es i e ≡ e → es ≡ take i es ++ e ∷ drop (suc i) es
split_at [] i e lt is = absurd (omega arith)
split_at (x ∷ es) zero e lt is = ap (λ e. e ∷ es) is
split_at (x ∷ es) (suc i) e lt is = ap (λ l. x ∷ l) (split_at es i e (omega arith) is)

find_begins : (es : List Preimage) (q : List ℕ) (x : Option Node) → all_begin es ≡ true → find path_cmp q es ≡ Some x → begins_with_slash q ≡ true
find_begins [] q x h found = absurd (false≢true (ap is_some found))
find_begins (e ∷ es) q x h found =
    elim (eq_by_cmp path_cmp q e.0) as (λ b. eq_by_cmp path_cmp q e.0 ≡ b → cond b (Some e.1) (find path_cmp q es) ≡ Some x → begins_with_slash q ≡ true) [
      | true ↦ λ s _. ap begins_with_slash (same_is q e.0 s) ∙ (and_parts _ _ h).0
      | false ↦ λ s found. find_begins es q x (and_parts _ _ h).1 found
    ] refl found

parent_below : (q above : List ℕ) → begins_with_slash q ≡ true → parent_of q ≡ Some above → path_cmp above q ≡ Less
parent_below [] above h is = absurd (false≢true h)
parent_below (b ∷ bs) above h is =
    let slash : b ≡ 47 = (Decides-eqb b 47).0 h in
    subst (λ (b : ℕ). path_cmp above (b ∷ bs) ≡ Less) (sym slash) (parent_less bs above (ap (λ b. parent_of (b ∷ bs)) (sym slash) ∙ is))

-- ---- both passes, path by path

abbrev gone_by : Option (Option Node) → Option Node → Option Node
gone_by None now = now
gone_by (Some before) now = cond (must_go before now) None now

abbrev filled_by : Option (Option Node) → Option Node → Option Node
filled_by None now = now
filled_by (Some None) now = now
filled_by (Some (Some node)) now = Some node

get-cleared_at : (path : List ℕ) (before : Option Node) (m : NodeMap) (q : List ℕ) → finite.get (cleared_at path before m) q ≡ cond (eq_by_cmp path_cmp q path) (gone_by (Some before) (finite.get m q)) (finite.get m q)
get-cleared_at path before m q = by_going (must_go before (finite.get m path)) refl
  where
    at_path : eq_by_cmp path_cmp q path ≡ true → finite.get m path ≡ finite.get m q
    at_path s = ap (finite.get m) (sym (same_is q path s))

    by_going : (b : Bool) → must_go before (finite.get m path) ≡ b → finite.get (cond b (finite.remove m path) m) q ≡ cond (eq_by_cmp path_cmp q path) (gone_by (Some before) (finite.get m q)) (finite.get m q)
    by_going true g = finite.get-remove nat_list_cmp_total m path q ∙ elim (eq_by_cmp path_cmp q path) as (λ b. eq_by_cmp path_cmp q path ≡ b → cond b None (finite.get m q) ≡ cond b (gone_by (Some before) (finite.get m q)) (finite.get m q)) [
      | true ↦ λ s. sym (ap (λ b. cond b None (finite.get m q)) (ap (must_go before) (sym (at_path s)) ∙ g))
      | false ↦ λ s. refl
    ] refl
    by_going false g = elim (eq_by_cmp path_cmp q path) as (λ b. eq_by_cmp path_cmp q path ≡ b → finite.get m q ≡ cond b (gone_by (Some before) (finite.get m q)) (finite.get m q)) [
      | true ↦ λ s. sym (ap (λ b. cond b None (finite.get m q)) (ap (must_go before) (sym (at_path s)) ∙ g))
      | false ↦ λ s. refl
    ] refl

get-cleared : (es : List Preimage) (m : NodeMap) (q : List ℕ) → is_sorted path_cmp es ≡ true → finite.get (cleared es m) q ≡ gone_by (find path_cmp q es) (finite.get m q)
get-cleared [] m q h = refl
get-cleared (e ∷ es) m q h =
    let rest = get-cleared es m q (and_parts _ _ h).1 in
    get-cleared_at e.0 e.1 (cleared es m) q
    ∙ ap (λ x. cond (eq_by_cmp path_cmp q e.0) (gone_by (Some e.1) x) x) rest
    ∙ elim (eq_by_cmp path_cmp q e.0) as (λ b. eq_by_cmp path_cmp q e.0 ≡ b → cond b (gone_by (Some e.1) (gone_by (find path_cmp q es) (finite.get m q))) (gone_by (find path_cmp q es) (finite.get m q)) ≡ gone_by (cond b (Some e.1) (find path_cmp q es)) (finite.get m q)) [
      | true ↦ λ s. ap (λ x. gone_by (Some e.1) (gone_by x (finite.get m q))) (ap (λ k. find path_cmp k es) (same_is q e.0 s) ∙ find_least e.0 es (and_parts _ _ h).0)
      | false ↦ λ s. refl
    ] refl

get-filled_at : (path : List ℕ) (before : Option Node) (m : NodeMap) (q : List ℕ) → finite.get (filled_at path before m) q ≡ cond (eq_by_cmp path_cmp q path) (filled_by (Some before) (finite.get m q)) (finite.get m q)
get-filled_at path None m q = elim (eq_by_cmp path_cmp q path) as (λ b. finite.get m q ≡ cond b (finite.get m q) (finite.get m q)) [ true ↦ refl | false ↦ refl ]
get-filled_at path (Some node) m q = finite.get-insert nat_list_cmp_total m path node q

get-filled : (es : List Preimage) (m : NodeMap) (q : List ℕ) → is_sorted path_cmp es ≡ true → finite.get (filled es m) q ≡ filled_by (find path_cmp q es) (finite.get m q)
get-filled [] m q h = refl
get-filled (e ∷ es) m q h =
    get-filled es (filled_at e.0 e.1 m) q (and_parts _ _ h).1
    ∙ ap (filled_by (find path_cmp q es)) (get-filled_at e.0 e.1 m q)
    ∙ elim (eq_by_cmp path_cmp q e.0) as (λ b. eq_by_cmp path_cmp q e.0 ≡ b → filled_by (find path_cmp q es) (cond b (filled_by (Some e.1) (finite.get m q)) (finite.get m q)) ≡ filled_by (cond b (Some e.1) (find path_cmp q es)) (finite.get m q)) [
      | true ↦ λ s. ap (λ x. filled_by x (filled_by (Some e.1) (finite.get m q))) (ap (λ k. find path_cmp k es) (same_is q e.0 s) ∙ find_least e.0 es (and_parts _ _ h).0)
      | false ↦ λ s. refl
    ] refl

pub filled-push : (es : List Preimage) (e : Preimage) (m : NodeMap) → filled (es ++ e ∷ []) m ≡ filled_at e.0 e.1 (filled es m)
filled-push [] e m = refl
filled-push (x ∷ es) e m = filled-push es e (filled_at x.0 x.1 m)

-- both passes together restore what was there
both_turns : (x : Option (Option Node)) (now : Option Node) → filled_by x (gone_by x now) ≡ was x now
both_turns None now = refl
both_turns (Some (Some node)) now = refl
both_turns (Some None) None = refl
both_turns (Some None) (Some now) = refl

pub put_back_in_turns : (es : List Preimage) (m : NodeMap) → is_sorted path_cmp es ≡ true → filled es (cleared es m) ≡ all_put_back es m
put_back_in_turns es m h = finite.same_map nat_list_cmp_total path_cmp-IsAntisymmetric _ _ (λ q. get-filled es (cleared es m) q h
    ∙ ap (filled_by (find path_cmp q es)) (get-cleared es m q h)
    ∙ both_turns (find path_cmp q es) (finite.get m q)
    ∙ sym (get-all_put_back es m q))

-- ---- preimages whose node must be removed

abbrev owner_of : Option Node → Option ℤ
owner_of x = option_map (λ node. node.owner) x

go_there : (before now : Option Node) → must_go before now ≡ true → is_some now ≡ true
go_there before None e = absurd (false≢true e)
go_there before (Some now) e = refl

go_apart : (before now : Option Node) → must_go before now ≡ true → owner_of now ≡ owner_of before → ⊥
go_apart before None e same = false≢true e
go_apart None (Some now) e same = false≢true (sym (ap is_some same))
go_apart (Some before) (Some now) e same =
    let alike : int_eq before.owner now.owner ≡ true = (Decides-int_eq before.owner now.owner).1 (sym (ap (λ o. unwrap_or o (pos 0)) same)) in
    false≢true (ap not (sym alike) ∙ e)

stays_same : (node now : Node) → must_go (Some node) (Some now) ≡ false → now.owner ≡ node.owner
stays_same node now e = sym ((Decides-int_eq node.owner now.owner).0 (not_false _ e))
  where
    not_false : (b : Bool) → not b ≡ false → b ≡ true
    not_false true h = refl
    not_false false h = sym h

gone_there : (x : Option (Option Node)) (now : Option Node) → is_some (gone_by x now) ≡ true → is_some now ≡ true
gone_there x (Some now) e = refl
gone_there None None e = e
gone_there (Some before) None e = e

module _ (es front rest : List Preimage) (e : Preimage) (split : es ≡ front ++ e ∷ rest) (h : is_sorted path_cmp es ≡ true) (now : NodeMap) (state : IsState (all_put_back es now)) (cur : NodeMap) where
  abbrev split_sorted : is_sorted path_cmp (front ++ e ∷ rest) ≡ true
  split_sorted = ap (is_sorted path_cmp) (sym split) ∙ h

  found : find path_cmp e.0 es ≡ Some e.1
  found = ap (find path_cmp e.0) split ∙ find_at e rest front split_sorted

  -- ---- the first pass, after which the rest is done

  module _ (tree : IsTree now) (root : (before : Option Node) → find path_cmp (codes "/") es ≡ Some before → owner_of before ≡ Some (pos 0)) (begin : all_begin es ≡ true) (rest_sorted : is_sorted path_cmp rest ≡ true) (is : cur ≡ cleared rest now) (cur_tree : IsTree cur) (go : must_go e.1 (finite.get cur e.0) ≡ true) where
    at_cur : (q : List ℕ) → finite.get cur q ≡ gone_by (find path_cmp q rest) (finite.get now q)
    at_cur q = ap (λ m. finite.get m q) is ∙ get-cleared rest now q rest_sorted

    same_here : finite.get cur e.0 ≡ finite.get now e.0
    same_here = at_cur e.0 ∙ ap (λ x. gone_by x (finite.get now e.0)) (find_least e.0 rest (rest_above e rest front split_sorted))

    pub take_there : finite.contains_key cur e.0 ≡ true
    take_there = go_there e.1 (finite.get cur e.0) go

    pub take_below : IsSome (parent_of e.0)
    take_below = has_parent e.0 (λ at_root. go_apart e.1 (finite.get cur e.0) go (ap (owner_at cur) at_root ∙ cur_tree.root ∙ sym (root e.1 (ap (λ k. find path_cmp k es) (sym at_root) ∙ found))))

    pub take_childless : length (children_of cur e.0) ≡ 0
    take_childless = childless cur e.0 no_child
      where
        gone_before : (child : List ℕ) → finite.contains_key cur child ≡ true → parent_of child ≡ Some e.0 → finite.contains_key (all_put_back es now) child ≡ false
        gone_before child has below = children_go now (all_put_back es now) tree.parents state.parents e.0 child below (gone_there (find path_cmp child rest) (finite.get now child) (ap is_some (sym (at_cur child)) ∙ has))
            (λ same. go_apart e.1 (finite.get cur e.0) go (ap owner_of same_here ∙ same ∙ ap owner_of (get-all_put_back es now e.0 ∙ ap (λ x. was x (finite.get now e.0)) found)))

        by_note : (child : List ℕ) → finite.contains_key cur child ≡ true → parent_of child ≡ Some e.0 → (x : Option (Option Node)) → find path_cmp child es ≡ x → is_some (was x (finite.get now child)) ≡ false → ⊥
        by_note child has below None none gone = false≢true (sym gone ∙ gone_there (find path_cmp child rest) (finite.get now child) (ap is_some (sym (at_cur child)) ∙ has))
        by_note child has below (Some (Some node)) note gone = false≢true (sym gone)
        by_note child has below (Some None) note gone =
            let less = parent_below child e.0 (find_begins es child None begin note) below in
            let behind : find path_cmp child rest ≡ Some None = sym (find_behind e rest child less front split_sorted) ∙ ap (find path_cmp child) (sym split) ∙ note in
            false≢true (sym (ap is_some (at_cur child ∙ ap (λ x. gone_by x (finite.get now child)) behind ∙ both_turns (Some None) (finite.get now child))) ∙ has)

        no_child : (child : List ℕ) → finite.contains_key cur child ≡ true → parent_of child ≡ Some e.0 → ⊥
        no_child child has below = by_note child has below (find path_cmp child es) refl (ap is_some (sym (get-all_put_back es now child)) ∙ gone_before child has below)

  -- ---- the second pass, before which the prefix is done

  module _ (begin : begins_with_slash e.0 ≡ true) (front_sorted : is_sorted path_cmp front ≡ true) (is : cur ≡ filled front (cleared es now)) (node : Node) (comes : e.1 ≡ Some node) where
    at_filled : (q : List ℕ) → finite.get cur q ≡ filled_by (find path_cmp q front) (gone_by (find path_cmp q es) (finite.get now q))
    at_filled q = ap (λ m. finite.get m q) is ∙ get-filled front (cleared es now) q front_sorted ∙ ap (filled_by (find path_cmp q front)) (get-cleared es now q h)

    pub put_below : (above : List ℕ) → parent_of e.0 ≡ Some above → owner_at cur above ≡ Some (pos 0)
    put_below above below =
        let earlier = sym (find_before e rest above (parent_below e.0 above begin below) front split_sorted) ∙ ap (find path_cmp above) (sym split) in
        let there : finite.contains_key (all_put_back es now) e.0 ≡ true = ap is_some (get-all_put_back es now e.0 ∙ ap (λ x. was x (finite.get now e.0)) (found ∙ ap Some comes)) in
        ap owner_of (at_filled above ∙ ap (λ x. filled_by x (gone_by (find path_cmp above es) (finite.get now above))) earlier ∙ both_turns (find path_cmp above es) (finite.get now above) ∙ sym (get-all_put_back es now above))
        ∙ state.parents e.0 above there below

    pub change_owner : (old : Node) → finite.get cur e.0 ≡ Some old → owner_at cur e.0 ≡ Some node.owner
    change_owner old there = ap owner_of there ∙ ap Some (by_now (finite.get now e.0) (sym still ∙ there))
      where
        still : finite.get cur e.0 ≡ gone_by (Some (Some node)) (finite.get now e.0)
        still = at_filled e.0
            ∙ ap (λ x. filled_by x (gone_by (find path_cmp e.0 es) (finite.get now e.0))) (find_not_before e rest front split_sorted)
            ∙ ap (λ x. gone_by x (finite.get now e.0)) (found ∙ ap Some comes)

        by_going : (x : Node) (b : Bool) → must_go (Some node) (Some x) ≡ b → cond b None (Some x) ≡ Some old → old.owner ≡ node.owner
        by_going x true g is = absurd (false≢true (ap is_some is))
        by_going x false g is = ap (λ n. n.owner) (sym (ap (λ o. unwrap_or o x) is)) ∙ stays_same node x g

        by_now : (x : Option Node) → gone_by (Some (Some node)) x ≡ Some old → old.owner ≡ node.owner
        by_now None is = absurd (false≢true (ap is_some is))
        by_now (Some x) is = by_going x (must_go (Some node) (Some x)) refl is

-- ---- the passes, position by position

drop_at : (es : List Preimage) (i : ℕ) (e : Preimage) → i < length es → get_or es i e ≡ e → drop i es ≡ e ∷ drop (suc i) es
drop_at [] i e lt is = absurd (omega arith)
drop_at (x ∷ es) zero e lt is = ap (λ e. e ∷ es) is
drop_at (x ∷ es) (suc i) e lt is = drop_at es i e (omega arith) is

take_next : (es : List Preimage) (i : ℕ) (e : Preimage) → i < length es → get_or es i e ≡ e → take (suc i) es ≡ take i es ++ e ∷ []
take_next [] i e lt is = absurd (omega arith)
take_next (x ∷ es) zero e lt is = ap (λ e. e ∷ []) is
take_next (x ∷ es) (suc i) e lt is = ap (λ l. x ∷ l) (take_next es i e (omega arith) is)

module _ (es : List Preimage) (at : ℕ) (e : Preimage) (some : 0 < at) (within : at ≤ length es) (is : get_or es (at - 1) e ≡ e) (h : is_sorted path_cmp es ≡ true) (slashes : all_begin es ≡ true) (now : NodeMap) (cur : NodeMap) (so_far : cur ≡ cleared (drop at es) now) where
  here : suc (at - 1) ≡ at
  here = omega arith

  before_here : at - 1 < length es
  before_here = omega arith

  split : es ≡ take (at - 1) es ++ e ∷ drop at es
  split = subst (λ (n : ℕ). es ≡ take (at - 1) es ++ e ∷ drop n es) here (split_at es (at - 1) e before_here is)

  pub clear_next : (n : NodeMap) → n ≡ cleared_at e.0 e.1 cur → n ≡ cleared (drop (at - 1) es) now
  clear_next n next = next ∙ ap (cleared_at e.0 e.1) so_far ∙ ap (λ l. cleared l now) (sym (drop_at es (at - 1) e before_here is ∙ ap (λ n. e ∷ drop n es) here))

  module _ (tree : IsTree now) (cur_tree : IsTree cur) (root : (before : Option Node) → find path_cmp (codes "/") es ≡ Some before → owner_of before ≡ Some (pos 0)) (state : IsState (all_put_back es now)) (go : must_go e.1 (finite.get cur e.0) ≡ true) where
    abbrev in_order : is_sorted path_cmp (drop at es) ≡ true
    in_order = rest_in_order e (drop at es) (take (at - 1) es) (ap (is_sorted path_cmp) (sym split) ∙ h)

    pub clear_childless : length (children_of cur e.0) ≡ 0
    clear_childless = take_childless es (take (at - 1) es) (drop at es) e split h now state cur tree root slashes in_order so_far cur_tree go

    pub clear_below : IsSome (parent_of e.0)
    clear_below = take_below es (take (at - 1) es) (drop at es) e split h now state cur tree root slashes in_order so_far cur_tree go

module _ (es : List Preimage) (i : ℕ) (e : Preimage) (within : i < length es) (is : get_or es i e ≡ e) (h : is_sorted path_cmp es ≡ true) (slashes : all_begin es ≡ true) (mid : NodeMap) (cur : NodeMap) (so_far : cur ≡ filled (take i es) mid) where
  abbrev parts : es ≡ take i es ++ e ∷ drop (suc i) es
  parts = split_at es i e within is

  pub fill_next : (n : NodeMap) → n ≡ filled_at e.0 e.1 cur → n ≡ filled (take (i + 1) es) mid
  fill_next n next =
      next ∙ ap (filled_at e.0 e.1) so_far ∙ sym (filled-push (take i es) e mid) ∙ ap (λ l. filled l mid) (sym (ap (λ n. take n es) (add-one i) ∙ take_next es i e within is))

  module _ (now : NodeMap) (clear : mid ≡ cleared es now) (state : IsState (all_put_back es now)) (node : Node) (comes : e.1 ≡ Some node) where
    abbrev begin : begins_with_slash e.0 ≡ true
    begin = mid_begins e (drop (suc i) es) (take i es) (ap all_begin (sym parts) ∙ slashes)

    abbrev before_in_order : is_sorted path_cmp (take i es) ≡ true
    before_in_order = front_in_order e (drop (suc i) es) (take i es) (ap (is_sorted path_cmp) (sym parts) ∙ h)

    pub fill_below : (above : List ℕ) → parent_of e.0 ≡ Some above → owner_at cur above ≡ Some (pos 0)
    fill_below = put_below es (take i es) (drop (suc i) es) e parts h now state cur begin before_in_order (so_far ∙ ap (filled (take i es)) clear) node comes

    pub fill_owner : (old : Node) → finite.get cur e.0 ≡ Some old → owner_at cur e.0 ≡ Some node.owner
    fill_owner = change_owner es (take i es) (drop (suc i) es) e parts h now state cur begin before_in_order (so_far ∙ ap (filled (take i es)) clear) node comes
