-- Lines that are written one after another.
use Rattle.std.proofs.Common.{◌≡◌, ◌≤◌, ◌<◌, ◌+◌, ℕ, suc, List, [], ◌∷◌, ◌++◌, length, map, take, get_or, refl, sym, ap, ◌∙◌, subst, append_assoc, append-nil, arith}
use Rattle.std.proofs.Math.Seq.{take-suc}
use Rattle.std.proofs.lemmas.List.{take_all}
use Rattle.std.specs.FinMap.{entries}
use Rattle.zk_json.specs.Nodes.{IsNodeLine}
use Rattle.zk_table.specs.States.{NodeMap, children_of}
use Rattle.zk_tree.specs.Entries.{entries_of, lent}
use Rattle.zk_tree.specs.declared.entry.Entry.{Entry}
use Rattle.zk_table.specs.Nodes.{stat_with}
use Rattle.zk_table.specs.declared.node.Node.{Node}
use Rattle.zk_json_commands.specs.Lines.{AppendsLines, AreLines}
use Rattle.zk_json_commands.specs.Nodes.{AppendsEntryLine, IsEntryLine, IsLine}

-- ---- one line more

pub lines_more : {A : Type 0} → (is_line : A → List ℕ → Type 0) (xs : List A) (x : A) (text line : List ℕ) → AreLines is_line xs text → is_line x line → AreLines is_line (xs ++ x ∷ []) (text ++ line)
lines_more is_line [] x text line e h = subst (λ (t : List ℕ). AreLines is_line (x ∷ []) (t ++ line)) (sym e) (line, [], h, refl, sym (append-nil line))
lines_more is_line (y ∷ ys) x text line e h = (e.0, e.1 ++ line, e.2, lines_more is_line ys x e.1 line e.3 h, ap (λ t. t ++ line) e.4 ∙ append_assoc e.0 e.1 line)

-- the first lines were appended
abbrev pub AreWritten : List Entry → ℕ → List ℕ → List ℕ → Type 0
AreWritten entries count old new = AppendsLines IsEntryLine (take count entries) old new

pub none_written : (entries : List Entry) (old : List ℕ) → AreWritten entries 0 old old
none_written entries old = ([], refl, sym (append-nil old))

pub next_written : (entries : List Entry) (count : ℕ) (entry : Entry) (old now new : List ℕ) → count < length entries → entry ≡ get_or entries count entry → AreWritten entries count old now → AppendsEntryLine entry now new → AreWritten entries (count + 1) old new
next_written entries count entry old now new lt is so_far h =
    let one : count + 1 ≡ suc count = omega arith in
    let more : take count entries ++ entry ∷ [] ≡ take (count + 1) entries = ap (λ (e : Entry). take count entries ++ e ∷ []) is ∙ sym (take-suc entries count entry lt) ∙ ap (λ n. take n entries) (sym one) in
    let text = so_far.0 ++ h.0 in
    subst (λ (es : List Entry). AppendsLines IsEntryLine es old new) more
    (text, lines_more IsEntryLine (take count entries) entry so_far.0 h.0 so_far.1 h.1, h.2 ∙ ap (λ t. t ++ h.0) so_far.2 ∙ append_assoc old so_far.0 h.0)

pub all_written : (entries : List Entry) (count : ℕ) (old new : List ℕ) → length entries ≤ count → AreWritten entries count old new → AppendsLines IsEntryLine entries old new
all_written entries count old new le h = subst (λ (es : List Entry). AppendsLines IsEntryLine es old new) (take_all count entries le) h

-- ---- the lines of a tree

pub lines_mapped : {A B : Type 0} → (f : A → B) (is_line : B → List ℕ → Type 0) (xs : List A) (text : List ℕ) → AreLines (λ x. is_line (f x)) xs text → AreLines is_line (map f xs) text
lines_mapped f is_line [] text h = h
lines_mapped f is_line (x ∷ xs) text h = (h.0, h.1, h.2, lines_mapped f is_line xs h.1 h.3, h.4)

lines_unmapped : {A B : Type 0} → (f : A → B) (is_line : B → List ℕ → Type 0) (xs : List A) (text : List ℕ) → AreLines is_line (map f xs) text → AreLines (λ x. is_line (f x)) xs text
lines_unmapped f is_line [] text h = h
lines_unmapped f is_line (x ∷ xs) text h = (h.0, h.1, h.2, lines_unmapped f is_line xs h.1 h.3, h.4)

abbrev IsLentLine : List ℕ × (Node × ℕ) → List ℕ → Type 0
IsLentLine l line = IsNodeLine l.0 l.1.0 (stat_with l.1.0 l.1.1) line

-- the lines of all entries are those of the nodes
pub nodes_told : (nodes : NodeMap) (es : List Entry) (old new : List ℕ) → map lent es ≡ entries_of nodes → AppendsLines IsEntryLine es old new → AppendsLines (IsLine nodes) (entries nodes) old new
nodes_told nodes es old new all h =
    let lines = subst (λ (ls : List (List ℕ × (Node × ℕ))). AreLines IsLentLine ls h.0) all (lines_mapped lent IsLentLine es h.0 h.1) in
    (h.0, lines_unmapped (λ (e : List ℕ × Node). (e.0, (e.1, length (children_of nodes e.0)))) IsLentLine (entries nodes) h.0 lines, h.2)
