-- Entries by ranks.
use Rattle.std.proofs.Common.{◌≡◌, ℕ, List, map, refl}
use Rattle.std.specs.BTreeMap.{insert_entry}
use Rattle.std.specs.Ordering.{nat_cmp, ordering_then}
use Rattle.std.specs.String.{string_bytes, string_cmp}
use Rattle.std.specs.declared.cmp.Ordering.{Ordering}
use Rattle.zk_incidents.proofs.Texts.{insert_keyed, keyed}
use Rattle.zk_incidents.specs.Counts.{rank_cmp}
use Rattle.zk_incidents.specs.declared.ranks.Rank.{Rank}

abbrev pub rank_of : Rank → ℕ × List ℕ
rank_of rank = (rank.below, string_bytes rank.text)

abbrev pub ranked : {X : Type 0} → Rank × X → (ℕ × List ℕ) × X
ranked entry = (rank_of entry.0, entry.1)

-- the derived order
abbrev pub by_fields : Rank → Rank → Ordering
by_fields rank other = ordering_then (nat_cmp rank.below other.below) (string_cmp rank.text other.text)

pub insert_ranked : {X : Type 0} (es : List (Rank × X)) (k : Rank) (v : X) → map ranked (insert_entry by_fields es k v) ≡ insert_entry rank_cmp (map ranked es) (rank_of k) v
insert_ranked es k v = insert_keyed rank_of by_fields rank_cmp (λ k l. refl) es k v
