-- The lines of a tree's entries are those of its nodes.
use Rattle.std.proofs.Common.{◌≡◌, ℕ, List, map, length, sym, ap, ◌∙◌}
use Rattle.std.proofs.lemmas.List.Folds.{flat_map-map}
use Rattle.std.specs.FinMap as finite
use Rattle.std.specs.List.{flat_map}
use Rattle.zk_format.specs.Reports.{node_line}
use Rattle.zk_table.specs.declared.node.Node.{Node}
use Rattle.zk_table.specs.Nodes.{stat_with}
use Rattle.zk_table.specs.States.{NodeMap, children_of}
use Rattle.zk_tree.specs.declared.entry.Entry.{Entry}
use Rattle.zk_tree.specs.Entries.{lent, entries_of}
use Rattle.zk_commands.specs.Diffs.{came_entry, came_line, came_text, went_entry, went_line, went_text}

abbrev text_lent : List ℕ × (Node × ℕ) → List ℕ
text_lent l = node_line l.0 l.1.0 (stat_with l.1.0 l.1.1)

abbrev with_count : NodeMap → List ℕ × Node → List ℕ × (Node × ℕ)
with_count nodes e = (e.0, (e.1, length (children_of nodes e.0)))

abbrev went_lent : NodeMap → List ℕ × (Node × ℕ) → List ℕ
went_lent new l = went_line (text_lent l) (finite.get new l.0)

pub went_all : (old new : NodeMap) (es : List Entry) → map lent es ≡ entries_of old → flat_map (went_entry new) es ≡ flat_map (went_text old new) (finite.entries old)
went_all old new es h =
    sym (flat_map-map (went_lent new) lent es) ∙ ap (flat_map (went_lent new)) h ∙ flat_map-map (went_lent new) (with_count old) (finite.entries old)

abbrev came_lent : NodeMap → List ℕ × (Node × ℕ) → List ℕ
came_lent old l = came_line old l.0 (text_lent l) (finite.get old l.0)

pub came_all : (old new : NodeMap) (es : List Entry) → map lent es ≡ entries_of new → flat_map (came_entry old) es ≡ flat_map (came_text old new) (finite.entries new)
came_all old new es h =
    sym (flat_map-map (came_lent old) lent es) ∙ ap (flat_map (came_lent old)) h ∙ flat_map-map (came_lent old) (with_count new) (finite.entries new)
