-- The trees of two directories, as far as their files prove them.
use Rattle.std.proofs.Common.{◌≡◌, ◌<◌, ◌+◌, ℕ, ℤ, Bool, true, false, cond, List, [], ◌∷◌, ◌++◌, length, map, take, get_or, drop, Option, Some, None, Ok, Err, String, inl, inr, refl, sym, ap, ◌∙◌, append_assoc, append-nil}
use Rattle.std.proofs.lemmas.List.{drop_more}
use Rattle.std.specs.Borrow.{Bor}
use Rattle.std.specs.FinMap.{get}
use Rattle.std.specs.List.{filter}
use Rattle.std.specs.Global.{Global}
use Rattle.std.specs.String.{string_bytes}
use Rattle.zk_comparison.specs.Sources.{Source}
use Rattle.zk_comparison.specs.Trees.{FindsSight, FindsTrees, IsSight, Sees, differing_paths, is_unread, node_at, nodes_in, tree_findings, tree_notices, trees_by}
use Rattle.zk_comparison.specs.declared.finding.Directory.{Directory}
use Rattle.zk_comparison.specs.declared.finding.Directory.TheVariants.{First, Second}
use Rattle.zk_comparison.specs.declared.finding.Finding.{Finding}
use Rattle.zk_comparison.specs.declared.finding.Finding.TheVariants.{Tree}
use Rattle.zk_comparison.specs.declared.trees.Sight.{Sight}
use Rattle.zk_comparison.specs.declared.trees.Trees.{Trees}
use Rattle.zk_directory_state.specs.Notices.{notices_of}
use Rattle.zk_directory_state.specs.declared.fault.HistoryFault.{HistoryFault}
use Rattle.zk_directory_state.specs.declared.fault.HistoryFault.TheVariants as faults
use Rattle.zk_directory_state.specs.declared.history.Shown.{Shown}
use Rattle.zk_directory_state.specs.declared.upto.Upto.TheVariants.{Zxid}
use Rattle.zk_machine.specs.Machines.{MachineView}
use Rattle.zk_table.specs.States.{NodeMap}
use Rattle.zk_tree_changes.proofs.Differing.{no_line}
use Rattle.zk_tree_changes.proofs.DifferingPaths.{differ_are}
use Rattle.zk_tree_changes.specs.Differences.{differ_at, differ_by, line_at}

-- ---- one directory

pub seen : (source : Source) (directory : Directory) (zxid : ℤ) (shown : Shown) (sight : Sight) → Sees source zxid (Ok shown) → IsSight directory zxid (Ok shown) sight → FindsSight source directory zxid (Ok sight)
seen source directory zxid shown sight s is = record { answer = Ok shown; sees = s; is = is }

pub not_seen : (source : Source) (directory : Directory) (zxid : ℤ) (fault : HistoryFault) (sight : Sight) → Sees source zxid (Err fault) → IsSight directory zxid (Err fault) sight → FindsSight source directory zxid (Ok sight)
not_seen source directory zxid fault sight s is = record { answer = Err fault; sees = s; is = is }

pub unseen : (source : Source) (directory : Directory) (zxid : ℤ) (fault : HistoryFault) → is_unread fault ≡ true → Sees source zxid (Err fault) → FindsSight source directory zxid (Err fault)
unseen source directory zxid fault is s = (is, s)

-- allocation may fail at any time
pub out_of_memory : (source : Source) (directory : Directory) (zxid : ℤ) → FindsSight source directory zxid (Err faults.NoMemory)
out_of_memory source directory zxid = (refl, inl tt)

pub state_seen : (directory : Directory) (zxid : ℤ) (shown : Shown) (machine : MachineView) (notices : String Global) → (let begun : MachineView = record { state = shown.restored.table.state; steps = 0; failed = false } in machine ≡ begun) → string_bytes notices ≡ notices_of (Zxid zxid) shown.restored → (let sight : Sight = record { machine = Some machine; notices = notices } in IsSight directory zxid (Ok shown) sight)
state_seen directory zxid shown machine notices is are = record {
  are_nodes = ap (λ (m : MachineView). Some m.state.nodes) is;
  is_whole = ap (λ (m : MachineView). m.failed) is;
  are_notices = are;
}

-- ---- both

pub first_unseen : (first second : Source) (directory : Directory) (zxid : ℤ) (fault : HistoryFault) → FindsSight first directory zxid (Err fault) → FindsTrees first second (Some zxid) (Err fault)
first_unseen first second directory zxid fault u = inl u

pub second_unseen : (first second : Source) (directory : Directory) (zxid : ℤ) (fault : HistoryFault) → FindsSight second directory zxid (Err fault) → FindsTrees first second (Some zxid) (Err fault)
second_unseen first second directory zxid fault u = inr u

pub no_memory_for_trees : (first second : Source) (zxid : ℤ) → FindsTrees first second (Some zxid) (Err faults.NoMemory)
no_memory_for_trees first second zxid = inl (refl, inl tt)

pub compared_trees : (first second : Source) (zxid : ℤ) (ours theirs : Sight) (trees : Trees) → FindsSight first First zxid (Ok ours) → FindsSight second Second zxid (Ok theirs) → trees.findings.items ≡ trees_by zxid (nodes_in ours.machine) (nodes_in theirs.machine) → string_bytes trees.notices ≡ string_bytes ours.notices ++ string_bytes theirs.notices → FindsTrees first second (Some zxid) (Ok trees)
compared_trees first second zxid ours theirs trees o t are noted = record {
  ours = o.answer;
  theirs = t.answer;
  sees_ours = o.sees;
  sees_theirs = t.sees;
  are = are ∙ ap (λ (n : Option NodeMap). trees_by zxid n (nodes_in theirs.machine)) o.is.are_nodes ∙ ap (trees_by zxid _) t.is.are_nodes;
  are_notices = noted ∙ ap (λ (l : List ℕ). l ++ string_bytes theirs.notices) o.is.are_notices ∙ ap (λ (l : List ℕ). tree_notices First zxid o.answer ++ l) t.is.are_notices;
}

-- ---- nodes

by_lines : (a b : Option (List ℕ)) → a ≡ None → b ≡ None → differ_by a b ≡ false
by_lines a b e f = ap (λ x. differ_by x b) e ∙ ap (differ_by None) f

-- trees do not differ where neither has a node
pub no_nodes : (first second : NodeMap) (path : List ℕ) → get first path ≡ None → get second path ≡ None → differ_at first second path ≡ true → ⊥
no_nodes first second path e f is =
    let none : true ≡ false = sym is ∙ differ_are first second path ∙ by_lines (line_at first path) (line_at second path) (no_line first path e) (no_line second path f) in cc

-- ---- all nodes

-- the first ones, and the number of all
pub all_said : (zxid : ℤ) (first second : NodeMap) (paths slice most : List (List ℕ)) (count : ℕ) (tree : Finding) (none mid new : List Finding) → paths ≡ differing_paths first second → slice ≡ paths → most ≡ take 1000 slice → count ≡ length paths → none ≡ [] → mid ≡ none ++ map (node_at first second) most → tree ≡ Tree zxid count → new ≡ mid ++ tree ∷ [] → new ≡ tree_findings zxid first second
all_said zxid first second paths slice most count tree none mid new p s m c n d t h =
    let shown : most ≡ take 1000 (differing_paths first second) = m ∙ ap (take 1000) (s ∙ p) in
    let number : count ≡ length (differing_paths first second) = c ∙ ap length p in
    h
    ∙ ap (λ (f : Finding). mid ++ f ∷ []) t
    ∙ ap (λ (l : List Finding). l ++ Tree zxid count ∷ []) (d ∙ ap (λ (l : List Finding). l ++ map (node_at first second) most) n ∙ ap (λ (ps : List (List ℕ)). map (node_at first second) ps) shown)
    ∙ ap (λ k. map (node_at first second) (take 1000 (differing_paths first second)) ++ Tree zxid k ∷ []) number

-- the paths that are left
next_by : (b : Bool) (old rest : List (List ℕ)) (path : List ℕ) → (old ++ cond b (path ∷ []) []) ++ rest ≡ old ++ cond b (path ∷ rest) rest
next_by true old rest path = append_assoc old (path ∷ []) rest
next_by false old rest path = ap (λ l. l ++ rest) (append-nil old)

pub next_path : (first second : NodeMap) (old new : List (List ℕ)) (texts : List (Bor (List ℕ))) (i : ℕ) (d : Bor (List ℕ)) → i < length texts
    → (let text : Bor (List ℕ) = get_or texts i d in new ≡ old ++ filter (differ_at first second) (text.now ∷ []))
    → new ++ filter (differ_at first second) (map (λ (text : Bor (List ℕ)). text.now) (drop (i + 1) texts)) ≡ old ++ filter (differ_at first second) (map (λ (text : Bor (List ℕ)). text.now) (drop i texts))
next_path first second old new texts i d lt h =
    let all = map (λ (text : Bor (List ℕ)). text.now) in
    let text : Bor (List ℕ) = get_or texts i d in
    let rest = filter (differ_at first second) (all (drop (i + 1) texts)) in
    ap (λ l. l ++ rest) h ∙ next_by (differ_at first second text.now) old rest text.now
    ∙ ap (λ (l : List (Bor (List ℕ))). old ++ filter (differ_at first second) (all l)) (sym (drop_more texts i d lt))
