-- The digest of a tree, from its borrowed nodes.
use Rattle.std.proofs.Common.{◌≡◌, ℕ, ◌+◌, ◌%◌, ◌^◌, ◌<◌, List, [], ◌∷◌, map, length, drop, get_or, refl, sym, ap, ◌∙◌, arith}
use Rattle.std.proofs.lemmas.List.{at_drop_more}
use Rattle.std.specs.FinMap as finite
use Rattle.std.specs.Prelude.{Some}
use Rattle.zk_table.specs.declared.node.Node.{Node}
use Rattle.zk_table.specs.States.{NodeMap, children_of}
use Rattle.zk_tree.specs.declared.entry.Entry.{Entry}
use Rattle.zk_tree.specs.Entries.{lent, entries_of}
use Rattle.zk_mend.specs.Digests.{Owners, digest_at, total, tree_digest}
use Rattle.zk_mend.specs.Stepping.{counted}
use Rattle.zk_replay.specs.Sums.{entries_digest, sum_of_entries}

total_lent : (owners : Owners) (items : List Entry) → sum_of_entries owners items ≡ total (λ path x. digest_at owners path x.0) (map lent items)
total_lent owners [] = refl
total_lent owners (e ∷ es) = ap (λ n. digest_at owners e.path.now e.node.now + n) (total_lent owners es)

total_counted : (count : List ℕ → Node → ℕ) (nodes : NodeMap) (es : List (List ℕ × Node)) → total {X = Node × ℕ} (λ path x. count path x.0) (map (λ e. (e.0, (e.1, length (children_of nodes e.0)))) es) ≡ total count es
total_counted count nodes [] = refl
total_counted count nodes (e ∷ es) = ap (λ n. count e.0 e.1 + n) (total_counted count nodes es)

pub whole_digest : (owners : Owners) (items : List Entry) (nodes : NodeMap) → map lent items ≡ entries_of nodes → entries_digest owners items ≡ tree_digest owners nodes
whole_digest owners items nodes lists =
    ap (λ n. n % 2 ^ 64) (total_lent owners items ∙ ap (total (λ path x. digest_at owners path x.0)) lists ∙ total_counted (digest_at owners) nodes (finite.entries nodes))

-- ---- as loops iterate

pub added_next : (sum here rest whole : ℕ) → (sum + (here + rest)) % 2 ^ 64 ≡ whole → ((sum + here) % 2 ^ 64 + rest) % 2 ^ 64 ≡ whole
added_next sum here rest whole so_far = omega arith

pub summed_next : (owners : Owners) (es : List Entry) (i : ℕ) (e : Entry) (sum whole : ℕ) → i < length es → e ≡ get_or es i e → (sum + sum_of_entries owners (drop i es)) % 2 ^ 64 ≡ whole → ((sum + counted e.path.now (Some e.node.now) (owners e.path.now)) % 2 ^ 64 + sum_of_entries owners (drop (i + 1) es)) % 2 ^ 64 ≡ whole
summed_next owners es i e sum whole within is so_far =
    added_next sum (counted e.path.now (Some e.node.now) (owners e.path.now)) (sum_of_entries owners (drop (i + 1) es)) whole
    (ap (λ (x : Entry). (sum + sum_of_entries owners (x ∷ drop (i + 1) es)) % 2 ^ 64) is ∙ sym (at_drop_more (λ l. (sum + sum_of_entries owners l) % 2 ^ 64) es i e within) ∙ so_far)
