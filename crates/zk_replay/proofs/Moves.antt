-- The digest after a transaction, from the nodes that it may change.
use Rattle.std.proofs.Common.{◌≡◌, ℕ, ◌+◌, ◌%◌, ◌^◌, true, false, List, [], ◌∷◌, Option, Some, None, refl, sym, ap, ◌∙◌, arith}
use Rattle.std.specs.FinMap as finite
use Rattle.std.specs.FinMap.{find}
use Rattle.std.specs.List.{list_any}
use Rattle.std.specs.Option.{unwrap_or}
use Rattle.std.specs.Ordering.{eq_by_cmp}
use Rattle.zk_table.specs.declared.node.Node.{Node}
use Rattle.zk_table.proofs.Sorted.{sorted_from_entries}
use Rattle.zk_table.specs.States.{NodeMap, State, path_cmp}
use Rattle.zk_table.specs.Steps.{step}
use Rattle.zk_newer_records.specs.declared.newer_record.NewerRecord.{NewerRecord}
use Rattle.zk_mend.specs.Digests.{Owners, digest_at, node_digest, total, tree_digest}
use Rattle.zk_mend.specs.Stepping.{counted, replaced}
use Rattle.zk_mend.proofs.Totals.{part}
use Rattle.zk_replay.proofs.Frames.{step_apart}
use Rattle.zk_replay.proofs.Givens.{owners_apart}
use Rattle.zk_replay.proofs.Outside.{others, parts, rises, rising_keys, same_others, total_alike, total_parts}
use Rattle.zk_replay.specs.Owning.{owners_by}
use Rattle.zk_replay.specs.Sums.{digest_over, sum_over}
use Rattle.zk_replay.specs.Touching.{touched}

found : (m : NodeMap) (q : List ℕ) → find path_cmp q (finite.entries m) ≡ finite.get m q
found m q = sym (finite.get-entries m q)

part_counted : (owners : Owners) (k : List ℕ) (x : Option Node) → part (digest_at owners) k x ≡ counted k x (owners k)
part_counted owners k None = refl
part_counted owners k (Some node) = refl

parts_over : (owners : Owners) (nodes : NodeMap) (ks : List (List ℕ)) → parts (digest_at owners) (finite.entries nodes) ks ≡ sum_over owners nodes ks
parts_over owners nodes [] = refl
parts_over owners nodes (k ∷ ks) =
    let first : part (digest_at owners) k (find path_cmp k (finite.entries nodes)) ≡ counted k (finite.get nodes k) (owners k) = ap (part (digest_at owners) k) (found nodes k) ∙ part_counted owners k (finite.get nodes k) in
    λ i. first i + parts_over owners nodes ks i

sums_replaced : (rest out comes : ℕ) → replaced ((rest + out) % 2 ^ 64) (out % 2 ^ 64) (comes % 2 ^ 64) ≡ (rest + comes) % 2 ^ 64
sums_replaced rest out comes = omega arith

-- nodes and owners that agree at all but some paths
pub moved : (ks : List (List ℕ)) (m n : NodeMap) (before after : Owners) (s : ℕ) → rises ks ≡ true → ((q : List ℕ) → list_any (eq_by_cmp path_cmp q) ks ≡ false → finite.get n q ≡ finite.get m q) → ((q : List ℕ) → list_any (eq_by_cmp path_cmp q) ks ≡ false → after q ≡ before q)
    → s ≡ tree_digest before m → replaced s (digest_over before m ks) (digest_over after n ks) ≡ tree_digest after n
moved ks m n before after s rise nodes owners is =
    let es = finite.entries m in
    let fs = finite.entries n in
    let rest = total (digest_at before) (others ks es) in
    let first : total (digest_at before) es ≡ rest + sum_over before m ks = total_parts (digest_at before) ks es rise (sorted_from_entries path_cmp _ m refl) ∙ ap (λ x. rest + x) (parts_over before m ks) in
    let same : rest ≡ total (digest_at after) (others ks fs) =
    total_alike (digest_at before) (digest_at after) ks (λ q x e. ap (λ w. node_digest q x (unwrap_or w x.owner)) (sym (owners q e))) es
    ∙ ap (total (digest_at after)) (same_others ks es fs (finite.entries_sorted m) (finite.entries_sorted n) (λ q e. found m q ∙ sym (nodes q e) ∙ sym (found n q))) in
    let second : total (digest_at after) fs ≡ rest + sum_over after n ks = total_parts (digest_at after) ks fs rise (sorted_from_entries path_cmp _ n refl) ∙ (λ i. sym same i + parts_over after n ks i) in
    ap (λ x. replaced x (digest_over before m ks) (digest_over after n ks)) (is ∙ ap (λ x. x % 2 ^ 64) first)
    ∙ sums_replaced rest (sum_over before m ks) (sum_over after n ks)
    ∙ ap (λ x. x % 2 ^ 64) (sym second)

-- ---- one record

pub step_moved : (state : State) (newer : NewerRecord) (owners : Owners) (s : ℕ) → s ≡ tree_digest owners state.nodes
    → (let ks = finite.keys (touched state.nodes newer.txn) in replaced s (digest_over owners state.nodes ks) (digest_over (owners_by owners newer) (step state newer.txn).0.nodes ks) ≡ tree_digest (owners_by owners newer) (step state newer.txn).0.nodes)
step_moved state newer owners s is =
    let paths = touched state.nodes newer.txn in
    moved (finite.keys paths) state.nodes (step state newer.txn).0.nodes owners (owners_by owners newer) s (rising_keys paths)
    (λ q e. step_apart state newer.txn q (finite.contains_key-keys paths q ∙ e))
    (λ q e. owners_apart state.nodes owners newer q (finite.contains_key-keys paths q ∙ e)) is
