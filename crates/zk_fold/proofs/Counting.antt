-- Nodes with their numbers of children: the effect of a change of one slot on all.
use Rattle.std.proofs.Common.{◌≡◌, ℕ, suc, ◌+◌, ◌≤◌, Bool, true, false, cond, List, [], ◌∷◌, map, filter, length, is_some, Option, Some, None, unwrap_or, refl, sym, ap, ◌∙◌, arith}
use Rattle.std.proofs.lemmas.Bool.{false≢true}
use Rattle.std.proofs.lemmas.Cmp.{nat_list_cmp_total}
use Rattle.std.specs.FinMap as finite
use Rattle.std.specs.FinMap.{find}
use Rattle.std.specs.Borrow.{Bor}
use Rattle.std.specs.Option.{option_map, option_copied}
use Rattle.std.specs.Ordering.{eq_by_cmp}
use Rattle.zk_table.specs.declared.node.Node.{Node}
use Rattle.zk_table.specs.States.{NodeMap, path_cmp, is_child_of, changed, changed_found}
use Rattle.zk_requests.specs.Overlays.{count_of}
use Rattle.zk_requests.proofs.Laying.{some_there}
use Rattle.zk_tree.specs.Views.{PathKeys}
use Rattle.zk_tree.proofs.Kept.{path_cmp-IsAntisymmetric}
use Rattle.zk_tree.proofs.Lists.{same_is, len-keys}
use Rattle.zk_fold.specs.declared.node_table.Slot.{Slot}
use Rattle.zk_fold.specs.Slots.{SlotMap, nodes_at, place_changed, place_changed_found, with_node, AreKept, IsCounted}

-- ---- the nodes of slots

find-nodes : (q : List ℕ) (es : List (List ℕ × Slot)) → find path_cmp q (map (λ e. (e.0, e.1.node)) es) ≡ option_map (λ p. p.node) (find path_cmp q es)
find-nodes q [] = refl
find-nodes q (e ∷ es) =
    elim (eq_by_cmp path_cmp q e.0) as (λ b. cond b (Some e.1.node) (find path_cmp q (map (λ e. (e.0, e.1.node)) es)) ≡ option_map (λ p. p.node) (cond b (Some e.1) (find path_cmp q es))) [ true ↦ refl | false ↦ find-nodes q es ]

pub get-nodes_at : (m : SlotMap) (q : List ℕ) → finite.get (nodes_at m) q ≡ option_map (λ p. p.node) (finite.get m q)
get-nodes_at m q = finite.get-from_entries nat_list_cmp_total _ q ∙ find-nodes q (finite.entries m) ∙ ap (option_map (λ p. p.node)) (sym (finite.get-entries m q))

some_node : (x : Option Slot) → is_some (option_map (λ p. p.node) x) ≡ is_some x
some_node None = refl
some_node (Some p) = refl

pub contains-nodes_at : (m : SlotMap) (q : List ℕ) → finite.contains_key (nodes_at m) q ≡ finite.contains_key m q
contains-nodes_at m q = ap is_some (get-nodes_at m q) ∙ some_node _

pub found_place : (x : Option Slot) → is_some x ≡ true → (p : Slot) × (x ≡ Some p)
found_place None e = absurd (false≢true e)
found_place (Some p) e = (p, refl)

node_in : (b : Bool) (p : Slot) (x : Option Slot) → option_map (λ p. p.node) (cond b (Some p) x) ≡ cond b (Some p.node) (option_map (λ p. p.node) x)
node_in true p x = refl
node_in false p x = refl

pub nodes-insert : (m : SlotMap) (k : List ℕ) (p : Slot) → nodes_at (finite.insert m k p) ≡ finite.insert (nodes_at m) k p.node
nodes-insert m k p =
    finite.same_map nat_list_cmp_total path_cmp-IsAntisymmetric _ _ (λ q. get-nodes_at (finite.insert m k p) q
    ∙ ap (option_map (λ p. p.node)) (finite.get-insert nat_list_cmp_total m k p q)
    ∙ node_in (eq_by_cmp path_cmp q k) p (finite.get m q)
    ∙ ap (cond (eq_by_cmp path_cmp q k) (Some p.node)) (sym (get-nodes_at m q))
    ∙ sym (finite.get-insert nat_list_cmp_total (nodes_at m) k p.node q))

node_out : (b : Bool) (x : Option Slot) → option_map (λ p. p.node) (cond b None x) ≡ cond b None (option_map (λ p. p.node) x)
node_out true x = refl
node_out false x = refl

pub nodes-remove : (m : SlotMap) (k : List ℕ) → nodes_at (finite.remove m k) ≡ finite.remove (nodes_at m) k
nodes-remove m k =
    finite.same_map nat_list_cmp_total path_cmp-IsAntisymmetric _ _ (λ q. get-nodes_at (finite.remove m k) q
    ∙ ap (option_map (λ p. p.node)) (finite.get-remove nat_list_cmp_total m k q)
    ∙ node_out (eq_by_cmp path_cmp q k) (finite.get m q)
    ∙ ap (cond (eq_by_cmp path_cmp q k) None) (sym (get-nodes_at m q))
    ∙ sym (finite.get-remove nat_list_cmp_total (nodes_at m) k q))

-- ---- a change of one slot

pub nodes_changed : (m : SlotMap) (path : List ℕ) (f : Slot → Slot) (change : Node → Node) → ((p : Slot) → (f p).node ≡ change p.node) → nodes_at (place_changed m path f) ≡ changed (nodes_at m) path change
nodes_changed m path f change same = by_place (finite.get m path) refl
  where
    by_place : (x : Option Slot) → finite.get m path ≡ x → nodes_at (place_changed_found m path f x) ≡ changed (nodes_at m) path change
    by_place None e = ap (changed_found (nodes_at m) path change) (sym (get-nodes_at m path ∙ ap (option_map (λ p. p.node)) e))
    by_place (Some p) e =
        nodes-insert m path (f p)
        ∙ ap (finite.insert (nodes_at m) path) (same p)
        ∙ ap (changed_found (nodes_at m) path change) (sym (get-nodes_at m path ∙ ap (option_map (λ p. p.node)) e))

pub get-changed : (m : SlotMap) (path : List ℕ) (f : Slot → Slot) (q : List ℕ) → finite.get (place_changed m path f) q ≡ cond (eq_by_cmp path_cmp q path) (option_map f (finite.get m q)) (finite.get m q)
get-changed m path f q = by_place (finite.get m path) refl
  where
    by_place : (x : Option Slot) → finite.get m path ≡ x → finite.get (place_changed_found m path f x) q ≡ cond (eq_by_cmp path_cmp q path) (option_map f (finite.get m q)) (finite.get m q)
    by_place None e = elim (eq_by_cmp path_cmp q path) as (λ b. eq_by_cmp path_cmp q path ≡ b → finite.get m q ≡ cond b (option_map f (finite.get m q)) (finite.get m q)) [
      | true ↦ λ s. let none : finite.get m q ≡ None = ap (finite.get m) (same_is q path s) ∙ e in none ∙ sym (ap (option_map f) none)
      | false ↦ λ s. refl
    ] refl
    by_place (Some p) e =
        finite.get-insert nat_list_cmp_total m path (f p) q
        ∙ elim (eq_by_cmp path_cmp q path) as (λ b. eq_by_cmp path_cmp q path ≡ b → cond b (Some (f p)) (finite.get m q) ≡ cond b (option_map f (finite.get m q)) (finite.get m q)) [
          | true ↦ λ s. sym (ap (option_map f) (ap (finite.get m) (same_is q path s) ∙ e))
          | false ↦ λ s. refl
        ] refl

-- a changed slot before the change
pub was : (f : Slot → Slot) (x : Option Slot) (r : Slot) → option_map f x ≡ Some r → (p : Slot) × (x ≡ Some p) × (f p ≡ r)
was f None r e = absurd (false≢true (ap is_some e))
was f (Some p) r e = (p, refl, ap (λ o. unwrap_or o r) e)

-- a change of a node leaves all numbers unchanged
pub count-changed : (n : NodeMap) (path : List ℕ) (change : Node → Node) (q : List ℕ) → count_of (changed n path change) q ≡ count_of n q
count-changed n path change q = by_node (finite.get n path) refl
  where
    by_node : (x : Option Node) → finite.get n path ≡ x → count_of (changed_found n path change x) q ≡ count_of n q
    by_node None e = refl
    by_node (Some node) e = some_there n path (change node) q (ap is_some e)

-- replacing a node
module _ (m : SlotMap) (path : List ℕ) (change : Node → Node) (counted : IsCounted m) where
  at : (q : List ℕ) (r : Slot) → cond (eq_by_cmp path_cmp q path) (option_map (with_node change) (finite.get m q)) (finite.get m q) ≡ Some r → (r.path ≡ q) × (r.children ≡ count_of (nodes_at m) q)
  at q r = elim (eq_by_cmp path_cmp q path) as (λ b. cond b (option_map (with_node change) (finite.get m q)) (finite.get m q) ≡ Some r → (r.path ≡ q) × (r.children ≡ count_of (nodes_at m) q)) [
    | true ↦ λ e. let old = was (with_node change) (finite.get m q) r e in (sym (ap (λ p. p.path) old.2) ∙ counted.keyed q old.0 old.1, sym (ap (λ p. p.children) old.2) ∙ counted.counts q old.0 old.1)
    | false ↦ λ e. (counted.keyed q r e, counted.counts q r e)
  ]

  pub nodes_written : nodes_at (place_changed m path (with_node change)) ≡ changed (nodes_at m) path change
  nodes_written = nodes_changed m path (with_node change) change (λ p. refl)

  pub counted_written : IsCounted (place_changed m path (with_node change))
  counted_written = record {
    keyed = λ q r is. (at q r (sym (get-changed m path (with_node change) q) ∙ is)).0;
    counts = λ q r is. (at q r (sym (get-changed m path (with_node change) q) ∙ is)).1 ∙ sym (ap (λ n. count_of n q) nodes_written ∙ count-changed (nodes_at m) path change q);
  }

-- ---- no number of children exceeds the number of slots

fewer : (f : List ℕ → Bool) (xs : List (List ℕ)) → length (filter f xs) ≤ length xs
fewer f [] = omega arith
fewer f (x ∷ xs) =
    let rest = fewer f xs in
    elim (f x) as (λ b. length (cond b (x ∷ filter f xs) (filter f xs)) ≤ suc (length xs)) [ true ↦ omega arith | false ↦ omega arith ]

pub at_most : {X : Type 0} (es : List (List ℕ × X)) → finite.len (finite.from_entries {R = path_cmp} es) ≤ length es
at_most {X} [] = rw (finite.len-empty path_cmp X) (omega arith)
at_most (e ∷ es) =
    let rest = at_most es in
    let m = finite.from_entries {R = path_cmp} es in
    rw (finite.len-insert nat_list_cmp_total m e.0 e.1) (elim (finite.contains_key m e.0) as (λ b. cond b (finite.len m) (finite.len m + 1) ≤ suc (length es)) [ true ↦ omega arith | false ↦ omega arith ])

pub length_map : {A B : Type 0} (f : A → B) (xs : List A) → length (map f xs) ≡ length xs
length_map f [] = refl
length_map f (x ∷ xs) = ap (λ n. suc n) (length_map f xs)

abbrev place_node : List ℕ × Slot → List ℕ × Node
place_node e = (e.0, e.1.node)

pub count_at_most : (m : SlotMap) (q : List ℕ) → count_of (nodes_at m) q ≤ finite.len m
count_at_most m q =
    let some : count_of (nodes_at m) q ≤ length (finite.keys (nodes_at m)) = fewer (is_child_of q) (finite.keys (nodes_at m)) in
    let all : finite.len (nodes_at m) ≡ length (finite.keys (nodes_at m)) = len-keys (nodes_at m) in
    let most : finite.len (nodes_at m) ≤ length (map place_node (finite.entries m)) = at_most (map place_node (finite.entries m)) in
    let same : length (map place_node (finite.entries m)) ≡ finite.len m = length_map place_node (finite.entries m) ∙ sym (finite.len-entries m) in
    omega (arith, some, all, most, same)

-- ---- as in the code

pub changed_place : (m : SlotMap) (path : List ℕ) (change : Slot → Slot) (place new : Slot) → finite.get m path ≡ Some place → new ≡ change place → finite.insert m path new ≡ place_changed m path change
changed_place m path change place new there is = ap (finite.insert m path) is ∙ ap (place_changed_found m path change) (sym there)

pub missing_place : (m : SlotMap) (path : List ℕ) (change : Slot → Slot) → finite.get m path ≡ None → m ≡ place_changed m path change
missing_place m path change none = ap (place_changed_found m path change) (sym none)

-- ---- the paths in slots

pub kept_paths : (m : SlotMap) (set : PathKeys) → IsCounted m → ((q : List ℕ) → finite.contains_key set q ≡ true → finite.contains_key (nodes_at m) q ≡ true) → AreKept m set
kept_paths m set counted there = record { kept = λ q k. let found = found_place (finite.get m q) (sym (contains-nodes_at m q) ∙ there q k) in ap (option_map (λ p. p.path)) found.1 ∙ ap Some (counted.keyed q found.0 found.1) }

-- whether a borrowed look-up found a value
pub some_copied : {A : Type 0} (lent : Option (Bor A)) (x : Option A) → option_copied lent ≡ x → (b : Bool) → is_some lent ≡ b → is_some x ≡ b
some_copied None x e b is = ap is_some (sym e) ∙ is
some_copied (Some a) x e b is = ap is_some (sym e) ∙ is
