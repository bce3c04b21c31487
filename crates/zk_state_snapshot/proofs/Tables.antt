-- Lists, tables and digests, element by element, as loops iterate.
use Rattle.std.proofs.Common.{◌≡◌, ℕ, ℤ, ◌+◌, ◌%◌, ◌^◌, ◌<◌, ◌≤◌, ◌&&◌, ◌==◌, Bool, true, false, List, [], ◌∷◌, map, length, drop, get_or, Option, Some, None, if◌then◌else◌, refl, sym, ap, ◌∙◌, arith, ne_eqb}
use Rattle.std.specs.FinMap.{entries}
use Rattle.zk_acl.specs.Access.{same_acl}
use Rattle.zk_acl.specs.declared.acl.Acl.{Acl}
use Rattle.zk_mend.specs.Digests.{digest_at, node_digest, total}
use Rattle.zk_mend.specs.Following.{no_owners}
use Rattle.zk_replay.proofs.Turning.{next_is, at_end}
use Rattle.zk_snapshot.specs.declared.snapshot.Access.{Access}
use Rattle.zk_state_snapshot.specs.Lists.{is_open, number_in, same_list, with_list, with_lists}
use Rattle.zk_state_snapshot.specs.StateSnapshots.{Placed, placed}
use Rattle.zk_table.specs.States.{NodeMap, children_of}
use Rattle.zk_tree.specs.Entries.{entries_of, lent}
use Rattle.zk_tree.specs.declared.entry.Entry.{Entry}
use Rattle.zk_table.specs.declared.node.Node.{Node}

-- ---- two lists

same_step : (a b : Acl) (ones others : List Acl) → same_list (a ∷ ones) (b ∷ others) ≡ (same_acl a b && same_list ones others)
unfolding same_list
same_step a b ones others = refl

same_short : (a : Acl) (ones : List Acl) → same_list (a ∷ ones) [] ≡ false
unfolding same_list
same_short a ones = refl

pub same_next : (ones : List Acl) (i : ℕ) (a b : Acl) (others : List Acl) (total : Bool) → i < length ones → a ≡ get_or ones i a → same_list (drop i ones) (b ∷ others) ≡ total → same_acl a b ≡ true → same_list (drop (i + 1) ones) others ≡ total
same_next ones i a b others all within is so_far same =
    sym (ap (λ (xs : List Acl). same_list xs (b ∷ others)) (next_is ones i a within is) ∙ same_step a b (drop (i + 1) ones) others ∙ ap (λ (x : Bool). x && same_list (drop (i + 1) ones) others) same) ∙ so_far

pub same_differs : (ones : List Acl) (i : ℕ) (a b : Acl) (others : List Acl) (total : Bool) → i < length ones → a ≡ get_or ones i a → same_list (drop i ones) (b ∷ others) ≡ total → same_acl a b ≡ false → false ≡ total
same_differs ones i a b others all within is so_far other =
    sym (ap (λ (xs : List Acl). same_list xs (b ∷ others)) (next_is ones i a within is) ∙ same_step a b (drop (i + 1) ones) others ∙ ap (λ (x : Bool). x && same_list (drop (i + 1) ones) others) other) ∙ so_far

pub same_ends : (ones : List Acl) (i : ℕ) (a : Acl) (total : Bool) → i < length ones → a ≡ get_or ones i a → same_list (drop i ones) [] ≡ total → false ≡ total
same_ends ones i a all within is so_far =
    sym (ap (λ (xs : List Acl). same_list xs []) (next_is ones i a within is) ∙ same_short a (drop (i + 1) ones)) ∙ so_far

same_none : same_list [] [] ≡ true
unfolding same_list
same_none = refl

same_long : (b : Acl) (others : List Acl) → same_list [] (b ∷ others) ≡ false
unfolding same_list
same_long b others = refl

none_is_same : (others : List Acl) (empty : Bool) → empty ≡ (length others == 0) → empty ≡ same_list [] others
none_is_same [] empty is = is ∙ sym same_none
none_is_same (b ∷ others) empty is = is ∙ ne_eqb (length (b ∷ others)) 0 (omega arith) ∙ sym (same_long b others)

pub same_at_end : (ones : List Acl) (i : ℕ) (others : List Acl) (empty total : Bool) → length ones ≤ i → empty ≡ (length others == 0) → same_list (drop i ones) others ≡ total → empty ≡ total
same_at_end ones i others empty all le is so_far =
    none_is_same others empty is ∙ sym (ap (λ (xs : List Acl). same_list xs others) (at_end ones i le)) ∙ so_far

and_false : (x : Bool) → false ≡ (x && false)
and_false true = refl
and_false false = refl

-- a list of two entries or more is not the open one
pub long_is_not_open : (acl : List Acl) → 1 < length acl → false ≡ is_open acl
unfolding same_list
long_is_not_open [] le = absurd (omega (arith, le))
long_is_not_open (a ∷ []) le = absurd (omega (arith, le))
long_is_not_open (a ∷ (b ∷ rest)) le = and_false _

-- ---- the number of a list

number_step : (x : Access) (rest : List Access) (acl : List Acl) (b : Bool) → same_list x.acl acl ≡ b → number_in (x ∷ rest) acl ≡ (if b then Some x.number else number_in rest acl)
unfolding number_in
number_step x rest acl b e = rw e refl

number_none : (acl : List Acl) → number_in [] acl ≡ None
unfolding number_in
number_none acl = refl

pub number_found : (table : List Access) (i : ℕ) (x : Access) (acl : List Acl) (total : Option ℤ) → i < length table → x ≡ get_or table i x → same_list x.acl acl ≡ true → number_in (drop i table) acl ≡ total → Some x.number ≡ total
number_found table i x acl all within is same so_far =
    sym (ap (λ (xs : List Access). number_in xs acl) (next_is table i x within is) ∙ number_step x (drop (i + 1) table) acl true same) ∙ so_far

pub number_next : (table : List Access) (i : ℕ) (x : Access) (acl : List Acl) (total : Option ℤ) → i < length table → x ≡ get_or table i x → same_list x.acl acl ≡ false → number_in (drop i table) acl ≡ total → number_in (drop (i + 1) table) acl ≡ total
number_next table i x acl all within is other so_far =
    sym (ap (λ (xs : List Access). number_in xs acl) (next_is table i x within is) ∙ number_step x (drop (i + 1) table) acl false other) ∙ so_far

pub number_ends : (table : List Access) (i : ℕ) (acl : List Acl) (total : Option ℤ) → length table ≤ i → number_in (drop i table) acl ≡ total → None ≡ total
number_ends table i acl all le so_far = sym (number_none acl) ∙ sym (ap (λ (xs : List Access). number_in xs acl) (at_end table i le)) ∙ so_far

-- ---- the table of the lists of nodes

lists_step : (table : List Access) (acl : List Acl) (acls : List (List Acl)) → with_lists table (acl ∷ acls) ≡ with_lists (with_list table acl) acls
unfolding with_lists
lists_step table acl acls = refl

lists_none : (table : List Access) → with_lists table [] ≡ table
unfolding with_lists
lists_none table = refl

abbrev pub lists_of : List Entry → List (List Acl)
lists_of es = map (λ e. e.1.acl) (map placed es)

pub lists_next : (table new total : List Access) (es : List Entry) (i : ℕ) (e : Entry) → i < length es → e ≡ get_or es i e → new ≡ with_list table e.node.now.acl → with_lists table (lists_of (drop i es)) ≡ total → with_lists new (lists_of (drop (i + 1) es)) ≡ total
lists_next table new all es i e within is one so_far =
    ap (λ (t : List Access). with_lists t (lists_of (drop (i + 1) es))) one
    ∙ sym (ap (λ (xs : List Entry). with_lists table (lists_of xs)) (next_is es i e within is) ∙ lists_step table e.node.now.acl (lists_of (drop (i + 1) es)))
    ∙ so_far

pub lists_end : (table total : List Access) (es : List Entry) (i : ℕ) → length es ≤ i → with_lists table (lists_of (drop i es)) ≡ total → table ≡ total
lists_end table all es i le so_far =
    sym (lists_none table) ∙ sym (ap (λ (xs : List Entry). with_lists table (lists_of xs)) (at_end es i le)) ∙ so_far

-- ---- the digest

abbrev pub sum_of : List Entry → ℕ
sum_of es = total (digest_at no_owners) (map placed es)

added : (sum here rest whole : ℕ) → (sum + (here + rest)) % 2 ^ 64 ≡ whole → ((sum + here) % 2 ^ 64 + rest) % 2 ^ 64 ≡ whole
added sum here rest whole so_far = omega arith

pub sum_next : (es : List Entry) (i : ℕ) (e : Entry) (sum whole : ℕ) → i < length es → e ≡ get_or es i e → (sum + sum_of (drop i es)) % 2 ^ 64 ≡ whole → ((sum + node_digest e.path.now e.node.now e.node.now.owner) % 2 ^ 64 + sum_of (drop (i + 1) es)) % 2 ^ 64 ≡ whole
sum_next es i e sum whole within is so_far =
    added sum (node_digest e.path.now e.node.now e.node.now.owner) (sum_of (drop (i + 1) es)) whole
    (sym (ap (λ (xs : List Entry). (sum + sum_of xs) % 2 ^ 64) (next_is es i e within is)) ∙ so_far)

pub sum_end : (es : List Entry) (i sum whole : ℕ) → length es ≤ i → sum < 2 ^ 64 → (sum + sum_of (drop i es)) % 2 ^ 64 ≡ whole → sum ≡ whole
sum_end es i sum whole le fits so_far =
    let none : (sum + 0) % 2 ^ 64 ≡ whole = sym (ap (λ (xs : List Entry). (sum + sum_of xs) % 2 ^ 64) (at_end es i le)) ∙ so_far in
    omega (arith, none, fits)

-- ---- nodes that are borrowed

placed_lent : (es : List Entry) → map placed es ≡ map (λ (x : List ℕ × (Node × ℕ)). (x.0, x.1.0)) (map lent es)
placed_lent [] = refl
placed_lent (e ∷ es) = ap (λ (xs : List Placed). placed e ∷ xs) (placed_lent es)

placed_counted : (nodes : NodeMap) (es : List Placed) → map (λ (x : List ℕ × (Node × ℕ)). (x.0, x.1.0)) (map (λ e. (e.0, (e.1, length (children_of nodes e.0)))) es) ≡ es
placed_counted nodes [] = refl
placed_counted nodes (e ∷ es) = ap (λ (xs : List Placed). e ∷ xs) (placed_counted nodes es)

-- borrowed nodes are those of the tree
pub placed_are : (es : List Entry) (nodes : NodeMap) → map lent es ≡ entries_of nodes → map placed es ≡ entries nodes
placed_are es nodes lists =
    placed_lent es ∙ ap (map (λ (x : List ℕ × (Node × ℕ)). (x.0, x.1.0))) lists ∙ placed_counted nodes (entries nodes)
