-- A session that ends: its nodes are deleted, in any order.
use Rattle.std.proofs.Common.{◌≡◌, ◌≢◌, ℕ, ℤ, ◌<◌, List, [], ◌∷◌, ◌++◌, length, Bool, false, Option, Some, None, refl, sym, ap, subst, ◌∙◌, ⊎_elim}
use Rattle.std.proofs.lemmas.Bool.{both_ways, or_parts}
use Rattle.std.specs.FinMap.{get, remove}
use Rattle.std.specs.List.{list_any}
use Rattle.std.specs.Ordering.{eq_by_cmp}
use Rattle.zk_path.specs.Paths.{parent_of}
use Rattle.zk_table.specs.declared.node.Node.{Node}
use Rattle.zk_table.specs.declared.txn.Txn.{Txn}
use Rattle.zk_table.specs.Nodes.{without_child}
use Rattle.zk_table.specs.Operations.{without, without_all}
use Rattle.zk_table.specs.States.{NodeMap, path_cmp, changed_above}
use Rattle.zk_replay.specs.Rules as rules
use Rattle.zk_replay.specs.Drafts.{DraftMap}
use Rattle.zk_replay_laws.proofs.Paths.{none_some}
use Rattle.zk_replay_laws.proofs.Gets.{paths_equal, cases_path}
use Rattle.zk_replay_laws.proofs.Changes.{Change, Deletes, applied, Deleted}
use Rattle.zk_replay_laws.proofs.Servers.{IsClosedMap, gone_at, gone_closed, still_there, was_before}
use Rattle.zk_replay_laws.proofs.Transactions.{replayed_all, replayed_append}
use Rattle.zk_replay_laws.proofs.Taking.{Leads, deletes, leads_append}

abbrev pub is_in : List ℕ → List (List ℕ) → Bool
is_in q paths = list_any (eq_by_cmp path_cmp q) paths

abbrev pub AreDistinct : List (List ℕ) → Type 0
AreDistinct [] = Unit {0}
AreDistinct (path ∷ paths) = (is_in path paths ≡ false) × AreDistinct paths

abbrev pub deletes_all : ℤ → List (List ℕ) → List Change
deletes_all zxid [] = []
deletes_all zxid (path ∷ paths) = deletes (parent_of path) zxid path ++ deletes_all zxid paths

-- ---- on a draft

none_deleted : (d : DraftMap) (zxid : ℤ) → rules.delete_all d zxid [] ≡ d
unfolding rules.delete_all
none_deleted d zxid = refl

more_deleted : (d : DraftMap) (zxid : ℤ) (path : List ℕ) (paths : List (List ℕ)) → rules.delete_all d zxid (path ∷ paths) ≡ rules.delete_all (rules.delete d zxid path) zxid paths
unfolding rules.delete_all
more_deleted d zxid path paths = refl

deleted_alike : (d : DraftMap) (o : Option (List ℕ)) (zxid : ℤ) (path : List ℕ) → rules.delete_below d zxid path o ≡ replayed_all d (deletes o zxid path)
deleted_alike d None zxid path = refl
deleted_alike d (Some above) zxid path = refl

pub all_deleted : (d : DraftMap) (zxid : ℤ) (paths : List (List ℕ)) → rules.delete_all d zxid paths ≡ replayed_all d (deletes_all zxid paths)
all_deleted d zxid [] = none_deleted d zxid
all_deleted d zxid (path ∷ paths) =
    more_deleted d zxid path paths
    ∙ ap (λ k. rules.delete_all k zxid paths) (deleted_alike d (parent_of path) zxid path)
    ∙ all_deleted (replayed_all d (deletes (parent_of path) zxid path)) zxid paths
    ∙ sym (replayed_append d (deletes (parent_of path) zxid path) (deletes_all zxid paths))

-- ---- on a server, node by node

pub record IsReady (m : NodeMap) (path : List ℕ) : Type 0 where
  pub node : Node
  pub there : get m path ≡ Some node
  pub above : List ℕ
  pub parent : parent_of path ≡ Some above
  pub childless : (q : List ℕ) → parent_of q ≡ Some path → get m q ≡ None
  pub filled : path ≢ []
  pub shorter : length above < length path

abbrev pub AllReady : NodeMap → List (List ℕ) → Type 0
AllReady m [] = Unit {0}
AllReady m (path ∷ paths) = IsReady m path × AllReady m paths

pub ready_deleted : (m : NodeMap) (path : List ℕ) (ready : IsReady m path) → Deleted m path ready.above
ready_deleted m path ready = record { node = ready.node; there = ready.there; parent = ready.parent; childless = ready.childless; filled = ready.filled; shorter = ready.shorter }

ready_still : (m : NodeMap) (zxid : ℤ) (path other : List ℕ) (ready : IsReady m path) → IsClosedMap m → other ≢ path → IsReady m other → IsReady (applied m (Deletes zxid path ready.above)) other
ready_still m zxid path other ready closed apart is =
    let deleted = ready_deleted m path ready in
    let kept = still_there m zxid path ready.above deleted closed other apart (is.node, is.there) in
    record {
      node = kept.0;
      there = kept.1;
      above = is.above;
      parent = is.parent;
      childless = λ q parent. absent q parent (get (applied m (Deletes zxid path ready.above)) q) refl;
      filled = is.filled;
      shorter = is.shorter;
    }
  where
    absent : (q : List ℕ) → parent_of q ≡ Some other → (o : Option Node) → get (applied m (Deletes zxid path ready.above)) q ≡ o → get (applied m (Deletes zxid path ready.above)) q ≡ None
    absent q parent None e = e
    absent q parent (Some n) e = ⊎_elim
        (λ at. absurd (none_some (sym (gone_at m zxid path ready.above (ready_deleted m path ready) closed) ∙ ap (get (applied m (Deletes zxid path ready.above))) (sym at) ∙ e)))
        (λ not_path. absurd (none_some (sym (is.childless q parent) ∙ (was_before m zxid path ready.above (ready_deleted m path ready) closed q not_path (n, e)).1)))
        (cases_path q path)

pub all_ready_still : (m : NodeMap) (zxid : ℤ) (path : List ℕ) (ready : IsReady m path) → IsClosedMap m → (paths : List (List ℕ)) → is_in path paths ≡ false → AllReady m paths → AllReady (applied m (Deletes zxid path ready.above)) paths
all_ready_still m zxid path ready closed [] distinct all = tt
all_ready_still m zxid path ready closed (p ∷ ps) distinct all =
    let parts = or_parts _ _ distinct in
    (ready_still m zxid path p ready closed (λ e. both_ways _ parts.0 (paths_equal path p (sym e))) all.0, all_ready_still m zxid path ready closed ps parts.1 all.1)

pub deletes_lead : (m : NodeMap) (txn : Txn) (paths : List (List ℕ)) → IsClosedMap m → AreDistinct paths → AllReady m paths → Leads m (deletes_all txn.zxid paths) (without_all txn m paths)
deletes_lead m txn [] closed distinct all = record { is = refl; taken = tt }
deletes_lead m txn (path ∷ paths) closed distinct all =
    let ready = all.0 in
    let deleted = ready_deleted m path ready in
    let one : without txn m path ≡ applied m (Deletes txn.zxid path ready.above) = ap (λ o. changed_above (remove m path) o (without_child txn.zxid)) ready.parent in
    let rest = deletes_lead (applied m (Deletes txn.zxid path ready.above)) txn paths (gone_closed m txn.zxid path ready.above deleted closed) distinct.1 (all_ready_still m txn.zxid path ready closed paths distinct.0 all.1) in
    subst (λ o. Leads m (deletes o txn.zxid path ++ deletes_all txn.zxid paths) (without_all txn (without txn m path) paths)) (sym ready.parent)
    (leads_append m (applied m (Deletes txn.zxid path ready.above)) (without_all txn (without txn m path) paths) (Deletes txn.zxid path ready.above ∷ []) (deletes_all txn.zxid paths)
    (record { is = refl; taken = (deleted, tt) })
    (subst (λ k. Leads (applied m (Deletes txn.zxid path ready.above)) (deletes_all txn.zxid paths) (without_all txn k paths)) (sym one) rest))
