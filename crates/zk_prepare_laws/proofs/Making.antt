-- A part that was made on some nodes is applied there.
use Rattle.std.proofs.Common.{◌≡◌, ℕ, ℤ, pos, Bool, true, false, cond, not, ◌==◌, nat_lt, List, ◌++◌, length, Option, Some, None, is_some, is_none, Ok, codes, refl, sym, ap, subst, ◌∙◌}
use Rattle.std.specs.Prelude.{option_and_then}
use Rattle.std.proofs.lemmas.Bool.{false≢true, cond-true, cond-false, and_parts, or_parts, not-true, eqb-true, false_from_ne_true}
use Rattle.std.proofs.lemmas.Slice.Eq.{bytes_eq-Decides}
use Rattle.std.specs.FinMap.{get, contains_key}
use Rattle.std.specs.Ordering.{int_eq}
use Rattle.zk_acl.specs.declared.acl.Acl.{Acl}
use Rattle.zk_acl.specs.declared.acl.Id.{Id}
use Rattle.zk_acl.specs.declared.stat.Stat.{Stat}
use Rattle.zk_acl.specs.Access.{allows, fix, read_perm, write_perm, create_perm, delete_perm, admin_perm}
use Rattle.zk_path.specs.Paths.{has_slash, is_root}
use Rattle.zk_path.specs.Sequences.{sequence}
use Rattle.zk_table.specs.declared.node.Node.{Node}
use Rattle.zk_table.specs.declared.sub.Sub.{Sub}
use Rattle.zk_table.specs.declared.sub.Sub.TheVariants as subs
use Rattle.zk_table.specs.declared.txn.Txn.{Txn}
use Rattle.zk_table.specs.Codes.{bad_arguments, no_node, no_auth, bad_version, no_children_for_ephemerals, node_exists, not_empty, invalid_acl}
use Rattle.zk_table.specs.Parts.{is_error}
use Rattle.zk_table.specs.Multis.{apply_part}
use Rattle.zk_table.specs.Operations.{done_unless, parent_fault, create_fault, delete_fault, missing_fault}
use Rattle.zk_table.specs.States.{NodeMap, children_of}
use Rattle.zk_requests.specs.declared.call.Part.{Part}
use Rattle.zk_requests.specs.declared.call.Part.TheVariants as asked
use Rattle.zk_requests.specs.Refusals.{◌>>=◌, demand}
use Rattle.zk_requests.specs.Requests.{text_above, is_legible, is_first_path, node_at, are_flags, is_sequential, matches, one_more, is_ephemeral, numbered, is_persistent, place_below, create_below, may_go, next_version, next_aversion, part_on}
use Rattle.zk_requests.specs.Requests as requests
use Rattle.zk_prepare_laws.proofs.Above.{parent_is_above, above_numbered}
use Rattle.zk_prepare_laws.proofs.Tests.{after_demand, after, after_option, after_path, same_ok}

-- if there is no reason to reject
pub answers_well : (fault : Option ℤ) (old new : NodeMap) (path : List ℕ) (stat : Option Stat) → fault ≡ None → (done_unless fault old path new stat).answer.err ≡ pos 0
answers_well fault old new path stat e = ap (λ f. (done_unless f old path new stat).answer.err) e

there : (nodes : NodeMap) (path : List ℕ) (node : Node) → get nodes path ≡ Some node → contains_key nodes path ≡ true
there nodes path node e = ap is_some e

-- ---- create

record IsPlaced (nodes : NodeMap) (text : List ℕ) (flags : ℤ) (parent : Node) (path : List ℕ) : Type 0 where
  is : path ≡ numbered text flags parent.creates
  free : contains_key nodes path ≡ false
  lasting : is_persistent parent ≡ true

module _ (nodes : NodeMap) (auths : List Id) (text : List ℕ) (flags : ℤ) (parent : Node) where
  placed : (path : List ℕ) → place_below nodes auths text flags parent ≡ Ok path → IsPlaced nodes text flags parent path
  placed path e =
      let place : List ℕ = numbered text flags parent.creates in
      let allowed = after_demand (allows parent.acl create_perm auths) no_auth _ path e in
      let known = after_demand (are_flags flags) bad_arguments _ path allowed.1 in
      let read = after_path place (λ path. demand (not (contains_key nodes path)) node_exists >>= λ _. demand (is_persistent parent) no_children_for_ephemerals >>= λ _. Ok path) path known.1 in
      let free = after_demand (not (contains_key nodes place)) node_exists _ path read in
      let lasting = after_demand (is_persistent parent) no_children_for_ephemerals (Ok place) path free.1 in
      let is : path ≡ place = same_ok place path lasting.1 in
      record { is = is; free = ap (contains_key nodes) is ∙ not-true _ free.0; lasting = lasting.0 }

  same_above : (path : List ℕ) → has_slash text ≡ true → path ≡ numbered text flags parent.creates → text_above path ≡ text_above text
  same_above path slash is =
      ap text_above is
      ∙ elim (is_sequential flags) as (λ b. text_above (cond b (text ++ sequence parent.creates) text) ≡ text_above text) [ true ↦ above_numbered text parent.creates slash | false ↦ refl ]

  module _ (path : List ℕ) (slash : has_slash text ≡ true) (below : get nodes (text_above text) ≡ Some parent) (is : IsPlaced nodes text flags parent path) where
    above : text_above path ≡ text_above text
    above = same_above path slash is.is

    not_root : is_root path ≡ false
    not_root = false_from_ne_true (is_root path) (λ e. taken ((bytes_eq-Decides path (codes "/")).0 e))
      where
        taken : path ≡ codes "/" → ⊥
        taken root = false≢true (sym is.free ∙ ap (contains_key nodes) (root ∙ sym (ap text_above root) ∙ above) ∙ there nodes (text_above text) parent below)

    no_fault : create_fault nodes path ≡ None
    no_fault =
        cond-false (contains_key nodes path) _ _ is.free
        ∙ ap (λ above. parent_fault (option_and_then (get nodes) above)) (parent_is_above path not_root ∙ ap Some above)
        ∙ ap parent_fault below
        ∙ cond-true (int_eq parent.owner (pos 0)) _ _ is.lasting

-- ---- the others

version_there : (nodes : NodeMap) (auths : List Id) (path : List ℕ) (version : ℤ) (perm : ℕ) (next : ℤ) → next_version nodes auths path version perm ≡ Ok next → missing_fault nodes path ≡ None
version_there nodes auths path version perm next e =
    let node = after_option no_node (get nodes path) (λ node. demand (allows node.acl perm auths) no_auth >>= λ _. demand (matches version node.version) bad_version >>= λ _. Ok (one_more node.version)) next e in
    cond-true (contains_key nodes path) _ _ (there nodes path node.value node.is)

pub aversion_there : (nodes : NodeMap) (auths : List Id) (path : List ℕ) (version next : ℤ) → next_aversion nodes auths path version ≡ Ok next → missing_fault nodes path ≡ None
aversion_there nodes auths path version next e =
    let node = after_option no_node (get nodes path) (λ node. demand (allows node.acl admin_perm auths) no_auth >>= λ _. demand (matches version node.aversion) bad_version >>= λ _. Ok (one_more node.aversion)) next e in
    cond-true (contains_key nodes path) _ _ (there nodes path node.value node.is)

-- the root is no path that may go
gone_free : (nodes : NodeMap) (auths : List Id) (path : List ℕ) (version : ℤ) (goes : Unit {0}) → is_first_path path ≡ false → may_go nodes auths path version ≡ Ok goes → delete_fault nodes path ≡ None
gone_free nodes auths path version goes later e =
    let not_root : is_root path ≡ false = (or_parts _ _ (or_parts _ _ later).0).0 in
    let node = after_option no_node (get nodes path) (λ node. node_at nodes (text_above path) >>= λ parent. demand (allows parent.acl delete_perm auths) no_auth >>= λ _. demand (matches version node.version) bad_version >>= λ _. demand (length (children_of nodes path) == 0) not_empty) goes e in
    let parent = after_option no_node (get nodes (text_above path)) (λ parent. demand (allows parent.acl delete_perm auths) no_auth >>= λ _. demand (matches version node.value.version) bad_version >>= λ _. demand (length (children_of nodes path) == 0) not_empty) goes node.rest in
    let allowed = after_demand (allows parent.value.acl delete_perm auths) no_auth _ goes parent.rest in
    let current = after_demand (matches version node.value.version) bad_version _ goes allowed.1 in
    let none : length (children_of nodes path) ≡ 0 = eqb-true _ 0 (demanded (length (children_of nodes path) == 0) current.1) in
    ap (λ p. cond (is_none p) (Some bad_arguments) (cond (contains_key nodes path) (cond (nat_lt 0 (length (children_of nodes path))) (Some not_empty) None) (Some no_node))) (parent_is_above path not_root)
    ∙ cond-true (contains_key nodes path) _ _ (there nodes path node.value node.is)
    ∙ ap (λ n. cond (nat_lt 0 n) (Some not_empty) None) none
  where
    demanded : (test : Bool) → demand test not_empty ≡ Ok goes → test ≡ true
    demanded true e = refl
    demanded false e = absurd (cc)

-- ---- one part

-- it is no error, and the table does not reject it
abbrev pub Applies : NodeMap → Sub → Type 0
Applies nodes sub = (is_error sub ≡ false) × ((txn : Txn) → (apply_part txn nodes sub).answer.err ≡ pos 0)

create_well : (nodes : NodeMap) (path : List ℕ) (content : Option (List ℕ)) (acl : List Acl) (ephemeral : Bool) (count : ℤ) → create_fault nodes path ≡ None → Applies nodes (subs.Create path content acl ephemeral count)
create_well nodes path content acl ephemeral count fault = (refl, λ txn. answers_well (create_fault nodes path) nodes _ path None fault)

pub create_applies : (nodes : NodeMap) (auths : List Id) (text : List ℕ) (content : Option (List ℕ)) (acl : List Acl) (flags : ℤ) (sub : Sub) → requests.create nodes auths text content acl flags ≡ Ok sub → Applies nodes sub
create_applies nodes auths text content acl flags sub e =
    let legible = after_demand (is_legible text) bad_arguments _ sub e in
    let kept = after_option invalid_acl (fix acl auths) (λ kept. node_at nodes (text_above text) >>= λ parent. create_below nodes auths text content kept flags parent) sub legible.1 in
    let parent = after_option no_node (get nodes (text_above text)) (λ parent. create_below nodes auths text content kept.value flags parent) sub kept.rest in
    let place = after (place_below nodes auths text flags parent.value) (λ path. Ok (subs.Create path content kept.value (is_ephemeral flags) (one_more parent.value.creates))) sub parent.rest in
    let fault = no_fault nodes auths text flags parent.value place.value (and_parts _ _ legible.0).0 parent.is (placed nodes auths text flags parent.value place.value place.first) in
    subst (Applies nodes) (sym (same_ok _ sub place.rest)) (create_well nodes place.value content kept.value (is_ephemeral flags) (one_more parent.value.creates) fault)

pub delete_applies : (nodes : NodeMap) (auths : List Id) (text : List ℕ) (version : ℤ) (sub : Sub) → requests.delete nodes auths text version ≡ Ok sub → Applies nodes sub
delete_applies nodes auths text version sub e =
    let read = after_path text (λ path. demand (not (is_first_path path)) bad_arguments >>= λ _. may_go nodes auths path version >>= λ _. Ok (subs.Delete path)) sub e in
    let later = after_demand (not (is_first_path text)) bad_arguments _ sub read in
    let goes = after (may_go nodes auths text version) (λ _. Ok (subs.Delete text)) sub later.1 in
    let fault = gone_free nodes auths text version goes.value (not-true _ later.0) goes.first in
    subst (Applies nodes) (sym (same_ok _ sub goes.rest)) (refl, λ txn. answers_well _ _ _ _ _ fault)

pub set_data_applies : (nodes : NodeMap) (auths : List Id) (text : List ℕ) (content : Option (List ℕ)) (version : ℤ) (sub : Sub) → requests.set_data nodes auths text content version ≡ Ok sub → Applies nodes sub
set_data_applies nodes auths text content version sub e =
    let read = after_path text (λ path. next_version nodes auths path version write_perm >>= λ next. Ok (subs.SetData path content next)) sub e in
    let next = after (next_version nodes auths text version write_perm) (λ next. Ok (subs.SetData text content next)) sub read in
    let fault = version_there nodes auths text version write_perm next.value next.first in
    subst (Applies nodes) (sym (same_ok _ sub next.rest)) (refl, λ txn. answers_well _ _ _ _ _ fault)

check_applies : (nodes : NodeMap) (auths : List Id) (text : List ℕ) (version : ℤ) (sub : Sub) → requests.check nodes auths text version ≡ Ok sub → Applies nodes sub
check_applies nodes auths text version sub e =
    let read = after_path text (λ path. next_version nodes auths path version read_perm >>= λ next. Ok (subs.Check path next)) sub e in
    let next = after (next_version nodes auths text version read_perm) (λ next. Ok (subs.Check text next)) sub read in
    subst (Applies nodes) (sym (same_ok _ sub next.rest)) (refl, λ txn. refl)

pub part_applies : (nodes : NodeMap) (auths : List Id) (part : Part) (sub : Sub) → part_on nodes auths part ≡ Ok sub → Applies nodes sub
part_applies nodes auths (asked.Create path content acl flags) sub e = create_applies nodes auths path content acl flags sub e
part_applies nodes auths (asked.Delete path version) sub e = delete_applies nodes auths path version sub e
part_applies nodes auths (asked.SetData path content version) sub e = set_data_applies nodes auths path content version sub e
part_applies nodes auths (asked.Check path version) sub e = check_applies nodes auths path version sub e
