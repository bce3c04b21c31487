-- A snapshot in two parts.
use Rattle.std.proofs.Common.{◌≡◌, false, ℕ, pos, ◌+◌, ◌<◌, ◌≤◌, List, [], ◌∷◌, ◌++◌, length, drop, get_or, Option, Some, None, refl, sym, ap, ◌∙◌, append_assoc, arith, length-append}
use Rattle.std.specs.List.{flat_map}
use Rattle.std.proofs.lemmas.Bool.{cond-false}
use Rattle.std.proofs.lemmas.List.{append-nil, drop_all, drop_more}
use Rattle.std.proofs.lemmas.List.Concat.{flat_map-cons}
use Rattle.zk_records.specs.Records.{int, long, ustring}
use Rattle.zk_snapshot.specs.declared.snapshot.Claim.{Claim}
use Rattle.zk_snapshot.specs.declared.snapshot.Contents.{Contents}
use Rattle.zk_snapshot.specs.declared.snapshot.Snapshot.{Snapshot}
use Rattle.zk_snapshot.specs.declared.snapshot.Stored.{Stored}
use Rattle.zk_snapshot.specs.Snapshots.{slash, claim, contents, kept, sealed, stored, stored_nodes, with_claim, snapshot_bytes, written_path}
use Rattle.zk_snapshot_writer.specs.Checksums.{after, start, total}
use Rattle.zk_snapshot_writer.specs.Writing.{head, sealed_from, ended_from, to_come}
use Rattle.zk_snapshot_writer.specs.declared.checksum.Checksum.{Checksum}
use Rattle.zk_snapshot_writer.specs.declared.encoder.Encoder.{Encoder}
use Rattle.zk_snapshot_writer.proofs.Sums.{after-append}

pub sealed_after : (sums : Checksum) (xs ys : List ℕ) → sealed_from sums (xs ++ ys) ≡ xs ++ sealed_from (after sums xs) ys
sealed_after sums xs ys =
    ap (λ (s : Checksum). (xs ++ ys) ++ (long (pos (total s)) ++ ustring slash)) (after-append sums xs ys)
    ∙ append_assoc xs ys (long (pos (total (after (after sums xs) ys))) ++ ustring slash)

pub ended_after : (sums : Checksum) (xs ys : List ℕ) (c : Option Claim) → ended_from sums (xs ++ ys) c ≡ xs ++ ended_from (after sums xs) ys c
ended_after sums xs ys None = sealed_after sums xs ys
ended_after sums xs ys (Some c) =
    ap (λ (s : List ℕ). sealed_from sums (s ++ claim c)) (sealed_after sums xs ys)
    ∙ ap (sealed_from sums) (append_assoc xs (sealed_from (after sums xs) ys) (claim c))
    ∙ sealed_after sums xs (sealed_from (after sums xs) ys ++ claim c)

whole_by : (c : Contents) (k : Option Claim) → with_claim (sealed (contents c)) k ≡ ended_from start (contents c) k
whole_by c None = refl
whole_by c (Some k) = refl

-- all bytes are those after none
pub whole : (s : Snapshot) → snapshot_bytes s ≡ ended_from start (contents s.contents) s.claim
whole s = whole_by s.contents s.claim

pub whole_after_head : (s : Snapshot) → snapshot_bytes s ≡ head s.contents ++ ended_from (after start (head s.contents)) (stored_nodes s.contents.nodes) s.claim
whole_after_head s = whole s ∙ ended_after start (head s.contents) (stored_nodes s.contents.nodes) s.claim

-- the next node and those after it
pub nodes_after : (one : Stored) (nodes : List Stored) → stored_nodes (one ∷ nodes) ≡ stored one ++ stored_nodes nodes
nodes_after one nodes = ap (λ (ys : List ℕ). ys ++ ustring slash) (flat_map-cons stored one nodes) ∙ append_assoc (stored one) (flat_map stored nodes) (ustring slash)

-- ---- what is encoded next

pub node_next : (nodes : List Stored) (claim : Option Claim) (at : ℕ) (sums : Checksum) (x : Stored) (item : List ℕ) → at < length nodes → x ≡ get_or nodes at x → item ≡ stored x → ended_from sums (stored_nodes (drop at nodes)) claim ≡ item ++ ended_from (after sums item) (stored_nodes (drop (at + 1) nodes)) claim
node_next nodes k at sums x item within is e =
    ap (λ (l : List Stored). ended_from sums (stored_nodes l) k) (drop_more nodes at x within ∙ ap (λ (y : Stored). y ∷ drop (at + 1) nodes) (sym is))
    ∙ ap (λ (bytes : List ℕ). ended_from sums bytes k) (nodes_after x (drop (at + 1) nodes))
    ∙ ended_after sums (stored x) (stored_nodes (drop (at + 1) nodes)) k
    ∙ ap (λ (bytes : List ℕ). bytes ++ ended_from (after sums bytes) (stored_nodes (drop (at + 1) nodes)) k) (sym e)

pub end_next : (nodes : List Stored) (claim : Option Claim) (at : ℕ) (sums : Checksum) (item : List ℕ) → length nodes ≤ at → item ≡ ended_from sums (ustring slash) claim → ended_from sums (stored_nodes (drop at nodes)) claim ≡ item ++ []
end_next nodes k at sums item le e =
    ap (λ (l : List Stored). ended_from sums (stored_nodes l) k) (drop_all at nodes le) ∙ sym e ∙ sym (append-nil item)

text_filled : (text : List ℕ) → 4 ≤ length (ustring text)
text_filled text = omega (arith, length-append (int (pos (length text))) text)

pub stored_filled : (s : Stored) → 0 < length (stored s)
stored_filled s = omega (arith, length-append (ustring (written_path s.path)) (kept s.kept), text_filled (written_path s.path))

sealed_filled : (sums : Checksum) (bytes : List ℕ) → length bytes ≤ length (sealed_from sums bytes)
sealed_filled sums bytes = omega (arith, length-append bytes (long (pos (total (after sums bytes))) ++ ustring slash))

pub ended_filled : (sums : Checksum) (bytes : List ℕ) (c : Option Claim) → length bytes ≤ length (ended_from sums bytes c)
ended_filled sums bytes None = sealed_filled sums bytes
ended_filled sums bytes (Some c) =
    omega (arith, sealed_filled sums bytes, length-append (sealed_from sums bytes) (claim c), sealed_filled sums (sealed_from sums bytes ++ claim c))

pub nodes_filled : (nodes : List Stored) → 0 < length (stored_nodes nodes)
nodes_filled nodes = omega (arith, length-append (flat_map stored nodes) (ustring slash), text_filled slash)

pub encoder_next : (e : Encoder) (x : Stored) (item : List ℕ) (sums : Checksum) → e.is_over ≡ false → e.at < length e.nodes → x ≡ get_or e.nodes e.at x → item ≡ stored x → sums ≡ after e.sums item
    → (let new : Encoder = record { nodes = e.nodes; claim = e.claim; at = e.at + 1; sums = sums; is_over = e.is_over } in to_come e ≡ item ++ to_come new)
encoder_next e x item sums going within is bytes same =
    cond-false _ _ _ going
    ∙ node_next e.nodes e.claim e.at e.sums x item within is bytes
    ∙ ap (λ (s : Checksum). item ++ ended_from s (stored_nodes (drop (e.at + 1) e.nodes)) e.claim) (sym same)
    ∙ ap (λ (l : List ℕ). item ++ l) (sym (cond-false _ _ _ going))
