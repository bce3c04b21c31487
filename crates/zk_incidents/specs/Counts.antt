-- How often texts occur, and the texts in order of that.
use Rattle.std.specs.Prelude.{◌+◌, ◌-◌, ◌^◌, ℕ, min, List, [], ◌∷◌, map}
use Rattle.std.specs.BTreeMap.{insert_entry, is_at}
use Rattle.std.specs.Map.{lookup}
use Rattle.std.specs.Option.{unwrap_or}
use Rattle.std.specs.Ordering.{nat_cmp, ordering_then}
use Rattle.std.specs.declared.cmp.Ordering.{Ordering}
use Rattle.zk_table.specs.States.{path_cmp}

-- texts in order, each with its count
abbrev pub Counted : Type 0
Counted = List (List ℕ × ℕ)

abbrev pub most : ℕ
most = 2 ^ 64 - 1

-- one more, at most the greatest `u64`
abbrev pub one_more : ℕ → ℕ
one_more count = min (count + 1) most

abbrev pub count_of : Counted → List ℕ → ℕ
count_of counted text = unwrap_or (lookup (is_at (path_cmp text)) counted) 0

abbrev pub counted_one : Counted → List ℕ → Counted
counted_one counted text = insert_entry path_cmp counted text (one_more (count_of counted text))

abbrev pub counted_all : Counted → List (List ℕ) → Counted
counted_all counted [] = counted
counted_all counted (text ∷ texts) = counted_all (counted_one counted text) texts

-- ---- the greatest count first

-- by how much a count is below the greatest one, and the text
abbrev pub Rank : Type 0
Rank = ℕ × List ℕ

abbrev pub rank_cmp : Rank → Rank → Ordering
rank_cmp rank other = ordering_then (nat_cmp rank.0 other.0) (path_cmp rank.1 other.1)

abbrev pub Ranked : Type 0
Ranked = List (Rank × ℕ)

abbrev pub ranked_one : Ranked → List ℕ × ℕ → Ranked
ranked_one ranked entry = insert_entry rank_cmp ranked (most - entry.1, entry.0) entry.1

-- in order of rank
abbrev pub ranked_all : Ranked → Counted → Ranked
ranked_all ranked [] = ranked
ranked_all ranked (entry ∷ counted) = ranked_all (ranked_one ranked entry) counted

abbrev pub row_of : Rank × ℕ → List ℕ × ℕ
row_of entry = (entry.0.1, entry.1)

-- the texts and their counts
abbrev pub rows_of : Ranked → Counted
rows_of ranked = map row_of ranked
