-- What a draft settles to, at each path.
use Rattle.std.proofs.Common.{◌≡◌, ℕ, List, [], ◌∷◌, Bool, true, false, cond, ◌&&◌, is_lt, is_eq, Less, Equal, Greater, Option, Some, None, refl, sym, ap, ◌∙◌, ⊎_elim}
use Rattle.std.proofs.lemmas.Bool.{cond-true, cond-false, cases_Bool, both_ways, and_parts, false≢true}
use Rattle.std.proofs.lemmas.Cmp.{nat_list_cmp_total}
use Rattle.std.specs.FinMap.{FinMap, get, insert, empty, entries, entries_sorted, find, is_sorted, same_map, get-entries, get-empty}
use Rattle.std.specs.Ordering.{eq_by_cmp}
use Rattle.zk_table.proofs.Sorted.{to_true}
use Rattle.zk_table.specs.States.{path_cmp, NodeMap}
use Rattle.zk_table.specs.declared.node.Node.{Node}
use Rattle.zk_replay.specs.declared.draft_node.DraftNode.{DraftNode}
use Rattle.zk_replay.specs.Drafts.{DraftMap}
use Rattle.zk_replay.specs.Bases.{settled}
use Rattle.zk_replay_laws.proofs.Paths.{some_inj, none_some}
use Rattle.zk_replay_laws.proofs.Gets.{same_path, path_is_itself, get_inserted, get_inserted_elsewhere, path_cmp-antisymmetric}
use Rattle.zk_replay_laws.proofs.Changes.{Field, Content, Acls, Czxid, Mzxid, Pzxid, Ctime, Mtime, Version, Creates, Aversion, Owner, value, cell, draft_cell}
use Rattle.zk_replay_laws.proofs.Removals.{IsDraftTree}
use Rattle.zk_replay_laws.specs.Histories.{Closings, Listed, Unlisted}
use Rattle.zk_replay_laws.proofs.Simulation.{Lacks, Matches, IsStale, Excused, AllSeen, absent_seen}

-- ---- entries in order

abbrev pub below_all : {X : Type 0} → List ℕ → List (List ℕ × X) → Bool
below_all x [] = true
below_all x (e ∷ es) = is_lt (path_cmp x e.0) && below_all x es

pub ordered : (r : _) → is_lt r ≡ true → r ≡ Less
ordered Less e = refl
ordered Equal e = absurd (false≢true e)
ordered Greater e = absurd (false≢true e)

pub no_other : {X : Type 0} (x : List ℕ) (es : List (List ℕ × X)) → below_all x es ≡ true → find path_cmp x es ≡ None
no_other x [] h = refl
no_other x (e ∷ es) h = let parts = and_parts _ _ h in cond-false _ _ _ (ap is_eq (ordered _ parts.0)) ∙ no_other x es parts.1

abbrev pub AllGot : {X : Type 0} → (List ℕ → Option X) → List (List ℕ × X) → Type 0
AllGot find_in [] = Unit {0}
AllGot find_in (e ∷ es) = (find_in e.0 ≡ Some e.1) × AllGot find_in es

got_later : {X : Type 0} (x : List ℕ) (v : X) (f : List ℕ → Option X) (es fs : List (List ℕ × X)) → ((q : List ℕ) → f q ≡ cond (eq_by_cmp path_cmp q x) (Some v) (find path_cmp q es)) → below_all x fs ≡ true → AllGot (λ q. find path_cmp q es) fs → AllGot f fs
got_later x v f es [] is below got = tt
got_later x v f es (e ∷ fs) is below got =
    let parts = and_parts _ _ below in
    (is e.0 ∙ cond-false _ _ _ (later_differs x e.0 (ordered _ parts.0)) ∙ got.0, got_later x v f es fs is parts.1 got.1)
  where
    later_differs : (a b : List ℕ) → path_cmp a b ≡ Less → eq_by_cmp path_cmp b a ≡ false
    later_differs a b less = ⊎_elim (λ same. absurd (both_ways _ (ap is_eq less) (ap (λ z. eq_by_cmp path_cmp a z) (same_path b a same) ∙ path_is_itself a))) (λ other. other) (cases_Bool (eq_by_cmp path_cmp b a))

all_found : {X : Type 0} (es : List (List ℕ × X)) → is_sorted path_cmp es ≡ true → AllGot (λ q. find path_cmp q es) es
all_found [] h = tt
all_found (e ∷ es) h =
    let parts = and_parts _ _ h in
    (cond-true _ _ _ (path_is_itself e.0), got_later e.0 e.1 _ es es (λ q. refl) parts.0 (all_found es parts.1))

got_as : {X : Type 0} (f g : List ℕ → Option X) (es : List (List ℕ × X)) → ((q : List ℕ) → f q ≡ g q) → AllGot g es → AllGot f es
got_as f g [] same got = tt
got_as f g (e ∷ es) same got = (same e.0 ∙ got.0, got_as f g es same got.1)

pub all_got : {X : Type 0} (m : FinMap path_cmp X) → AllGot (get m) (entries m)
all_got m = got_as (get m) _ (entries m) (get-entries m) (all_found (entries m) (to_true _ (entries_sorted m)))

-- ---- what the nodes settle to

abbrev pub node_or : Option DraftNode → Option Node → Option Node
node_or None o = o
node_or (Some x) o = Some x.node

abbrev pub AllKeyed : List (List ℕ × DraftNode) → Type 0
AllKeyed [] = Unit {0}
AllKeyed (e ∷ es) = (e.1.path ≡ e.0) × AllKeyed es

settled_first : (nodes : NodeMap) (e : List ℕ × DraftNode) (es : List (List ℕ × DraftNode)) → e.1.lacks_acl ≡ false → settled nodes (e ∷ es) ≡ settled (insert nodes e.1.path e.1.node) es
unfolding settled
settled_first nodes e es known = cond-false _ _ _ known

unsettled : (nodes : NodeMap) (e : List ℕ × DraftNode) (es : List (List ℕ × DraftNode)) → e.1.lacks_acl ≡ true → settled nodes (e ∷ es) ≡ None
unfolding settled
unsettled nodes e es lacks = cond-true _ _ _ lacks

settled_end : (nodes : NodeMap) → settled nodes [] ≡ Some nodes
unfolding settled
settled_end nodes = refl

first_known : (nodes all : NodeMap) (e : List ℕ × DraftNode) (es : List (List ℕ × DraftNode)) → settled nodes (e ∷ es) ≡ Some all → e.1.lacks_acl ≡ false
first_known nodes all e es is = ⊎_elim (λ lacks. absurd (none_some (sym (unsettled nodes e es lacks) ∙ is))) (λ known. known) (cases_Bool e.1.lacks_acl)

pub settled_get : (nodes all : NodeMap) (es : List (List ℕ × DraftNode)) → is_sorted path_cmp es ≡ true → AllKeyed es → settled nodes es ≡ Some all → (q : List ℕ) → get all q ≡ node_or (find path_cmp q es) (get nodes q)
settled_get nodes all [] sorted keyed is q = ap (λ m. get m q) (sym (some_inj (sym (settled_end nodes) ∙ is)))
settled_get nodes all (e ∷ es) sorted keyed is q =
    let parts = and_parts _ _ sorted in
    let rest = settled_get (insert nodes e.1.path e.1.node) all es parts.1 keyed.1 (sym (settled_first nodes e es (first_known nodes all e es is)) ∙ is) q in
    ⊎_elim
    (λ here.
    let at : q ≡ e.0 = same_path q e.0 here in
    rest
    ∙ ap (λ o. node_or o (get (insert nodes e.1.path e.1.node) q)) (ap (λ x. find path_cmp x es) at ∙ no_other e.0 es parts.0)
    ∙ ap (get (insert nodes e.1.path e.1.node)) (at ∙ sym keyed.0)
    ∙ get_inserted nodes e.1.path e.1.node
    ∙ sym (ap (λ o. node_or o (get nodes q)) (cond-true _ (Some e.1) (find path_cmp q es) here)))
    (λ else.
    rest
    ∙ ap (node_or (find path_cmp q es)) (get_inserted_elsewhere nodes e.1.path e.1.node q (λ is_path. both_ways _ else (ap (λ x. eq_by_cmp path_cmp q x) (sym (is_path ∙ keyed.0)) ∙ path_is_itself q)))
    ∙ sym (ap (λ o. node_or o (get nodes q)) (cond-false _ (Some e.1) (find path_cmp q es) else)))
    (cases_Bool (eq_by_cmp path_cmp q e.0))

known_within : (nodes all : NodeMap) (es : List (List ℕ × DraftNode)) → settled nodes es ≡ Some all → (q : List ℕ) (x : DraftNode) → find path_cmp q es ≡ Some x → x.lacks_acl ≡ false
known_within nodes all [] is q x found = absurd (none_some found)
known_within nodes all (e ∷ es) is q x found =
    let known = first_known nodes all e es is in
    ⊎_elim
    (λ here. ap (λ y. y.lacks_acl) (some_inj (sym found ∙ cond-true _ (Some e.1) (find path_cmp q es) here)) ∙ known)
    (λ else. known_within (insert nodes e.1.path e.1.node) all es (sym (settled_first nodes e es known) ∙ is) q x (sym (cond-false _ (Some e.1) (find path_cmp q es) else) ∙ found))
    (cases_Bool (eq_by_cmp path_cmp q e.0))

pub keyed_entries : (d : DraftMap) → IsDraftTree d → (es : List (List ℕ × DraftNode)) → AllGot (get d) es → AllKeyed es
keyed_entries d tree [] got = tt
keyed_entries d tree (e ∷ es) got = (tree.keyed e.0 e.1 got.0, keyed_entries d tree es got.1)

module _ (d : DraftMap) (tree : IsDraftTree d) (all : NodeMap) (is : settled empty (entries d) ≡ Some all) where
  pub settles_to : (q : List ℕ) → get all q ≡ node_or (get d q) None
  settles_to q =
      settled_get empty all (entries d) (to_true _ (entries_sorted d)) (keyed_entries d tree (entries d) (all_got d)) is q
      ∙ ap (λ o. node_or o (get (empty {X = Node} {R = path_cmp}) q)) (sym (get-entries d q))
      ∙ ap (node_or (get d q)) (get-empty path_cmp q)

  pub all_known : (q : List ℕ) (x : DraftNode) → get d q ≡ Some x → x.lacks_acl ≡ false
  all_known q x there = known_within empty all (entries d) is q x (sym (get-entries d q) ∙ there)

-- ---- nodes with equal fields are equal

pub same_node : (a b : Node) → ((f : Field) → value f a ≡ value f b) → a ≡ b
same_node a b h = λ i. record {
  content = h Content i;
  acl = h Acls i;
  czxid = h Czxid i;
  mzxid = h Mzxid i;
  pzxid = h Pzxid i;
  ctime = h Ctime i;
  mtime = h Mtime i;
  version = h Version i;
  creates = h Creates i;
  aversion = h Aversion i;
  owner = h Owner i;
}

-- ---- at the end of the window

module _ (closings : Closings) (m : NodeMap) (d : DraftMap) (tree : IsDraftTree d) (seen : AllSeen closings m [] d) (all : NodeMap) (is : settled empty (entries d) ≡ Some all) where
  not_stale : (q : List ℕ) → IsStale m [] d q → ⊥
  not_stale q stale = none_some (sym stale.absent ∙ stale.made.1)

  -- only the zxid of children is excused
  excused_pzxid : (q : List ℕ) (f : Field) → Excused closings m [] d q f → (f ≡ Pzxid) × (closings ≡ Unlisted)
  excused_pzxid q Content e = absurd (not_stale q e.1)
  excused_pzxid q Acls e = absurd (not_stale q e.1)
  excused_pzxid q Czxid e = absurd (not_stale q e.1)
  excused_pzxid q Mzxid e = absurd (not_stale q e.1)
  excused_pzxid q Pzxid e = (refl, e)
  excused_pzxid q Ctime e = absurd (not_stale q e.1)
  excused_pzxid q Mtime e = absurd (not_stale q e.1)
  excused_pzxid q Version e = absurd (not_stale q e.1)
  excused_pzxid q Creates e = absurd (not_stale q e.1)
  excused_pzxid q Aversion e = absurd (not_stale q e.1)
  excused_pzxid q Owner e = absurd e

  module _ (q : List ℕ) (f : Field) (plain : (f ≡ Pzxid) × (closings ≡ Unlisted) → ⊥) where
    no_lack_known : (g : Field) → Lacks g d q → ⊥
    no_lack_known Acls lacks = both_ways _ (all_known d tree all is q lacks.0 lacks.1.0) lacks.1.1
    no_lack_known _ lacks = lacks

    matched : Matches f (get d q) q m
    matched = ⊎_elim (λ lacks. absurd (no_lack_known f lacks)) (λ known. ⊎_elim (λ matches. matches) (λ excused. absurd (plain (excused_pzxid q f excused))) known) (seen q f)

    -- it is as on the server
    pub settles_alike : cell f (get all q) ≡ cell f (get m q)
    settles_alike = at (get d q) refl
      where
        at : (o : Option DraftNode) → get d q ≡ o → cell f (get all q) ≡ cell f (get m q)
        at None none = ap (cell f) (settles_to d tree all is q ∙ ap (λ o. node_or o None) none) ∙ sym (ap (cell f) (absent_seen closings m [] d q seen none))
        at (Some x) there = ap (cell f) (settles_to d tree all is q ∙ ap (λ o. node_or o None) there) ∙ sym (ap (draft_cell f) there) ∙ matched

same_cells : (a b : Option Node) → ((f : Field) → cell f a ≡ cell f b) → a ≡ b
same_cells None None h = refl
same_cells None (Some y) h = absurd (none_some (h Czxid))
same_cells (Some x) None h = absurd (none_some (sym (h Czxid)))
same_cells (Some x) (Some y) h = ap Some (same_node x y (λ f. some_inj (h f)))

-- a draft that is seen at the end of its window settles to the server's nodes
pub settles_to_server : (m : NodeMap) (d : DraftMap) → IsDraftTree d → AllSeen Listed m [] d → (all : NodeMap) → settled empty (entries d) ≡ Some all → all ≡ m
settles_to_server m d tree seen all is =
    same_map nat_list_cmp_total path_cmp-antisymmetric all m (λ q. same_cells (get all q) (get m q) (λ f. settles_alike Listed m d tree seen all is q f (λ e. listed_apart e.1)))
  where
    listed_apart : Listed ≡ Unlisted → ⊥
    listed_apart e = absurd (cc)
