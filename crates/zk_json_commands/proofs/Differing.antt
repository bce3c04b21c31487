-- The lines of what differs, one after another.
use Rattle.std.proofs.Common.{◌≡◌, ◌<◌, ◌+◌, ℕ, Bool, true, false, cond, ◌&&◌, List, [], ◌∷◌, ◌++◌, Option, None, Result, Ok, Err, String, OnOk, length, get_or, drop, map, option_map, refl, sym, ap, ◌∙◌, subst, append_assoc, append-nil}
use Rattle.std.proofs.lemmas.List.{drop_more}
use Rattle.std.specs.Borrow.{Bor}
use Rattle.std.specs.FinMap.{get}
use Rattle.std.specs.Global.{Global}
use Rattle.std.specs.List.{filter}
use Rattle.std.specs.String.{string_bytes}
use Rattle.zk_tree_changes.specs.DifferenceReports.{AreCompared, FindsCompared}
use Rattle.zk_tree_changes.specs.declared.compared.Compared.{Compared}
use Rattle.zk_tree_changes.proofs.Differing.{no_line}
use Rattle.zk_tree_changes.proofs.DifferingPaths.{differ_are}
use Rattle.zk_tree_changes.specs.Changes.{Track, stamp_at}
use Rattle.zk_tree_changes.specs.Differences.{differ_at, differ_by, differ_within, differing, line_at}
use Rattle.zk_directory_state.specs.declared.notices.Noticed.{Noticed}
use Rattle.zk_directory_state.specs.declared.upto.Upto.{Upto}
use Rattle.zk_incidents.specs.Within.{is_within}
use Rattle.zk_json.specs.Changes.{AppendsChangeLine}
use Rattle.zk_json.specs.declared.changes.LastChange.{LastChange}
use Rattle.zk_json_commands.specs.Lines.{AppendsLines, AreLines}
use Rattle.zk_path.specs.declared.memory.NoMemory.{NoMemory}
use Rattle.zk_table.specs.States.{NodeMap}
use Rattle.zk_json_commands.proofs.WrittenReports.{lines_joined}
use Rattle.zk_json_commands.specs.Differences.{AppendsDifferences, FindsDifference, IsDifferenceLine, last_of, side_at}

-- ---- nodes

by_lines : (a b : Option (List ℕ)) → a ≡ None → b ≡ None → differ_by a b ≡ false
by_lines a b e f = ap (λ x. differ_by x b) e ∙ ap (differ_by None) f

-- where neither tree has a node they do not differ
pub no_nodes : (old new : NodeMap) (path : List ℕ) → get old path ≡ None → get new path ≡ None → differ_at old new path ≡ true → ⊥
no_nodes old new path e f is =
    let none : true ≡ false = sym is ∙ differ_are old new path ∙ by_lines (line_at old path) (line_at new path) (no_line old path e) (no_line new path f) in cc

-- ---- lines

module _ (root : List ℕ) (below : Bool) (changes : Track) (old new : NodeMap) where
  pub none_appended : (text : List ℕ) → AppendsDifferences root below changes old new [] text text
  none_appended text = ([], refl, sym (append-nil text))

  passed : (path text : List ℕ) → differ_within root below old new path ≡ false → AppendsDifferences root below changes old new (path ∷ []) text text
  passed path text is = subst (λ t. AppendsLines (IsDifferenceLine changes old new) (cond t (path ∷ []) []) text text) (sym is) (none_appended text)

  pub outside : (path text : List ℕ) → is_within root below path ≡ false → AppendsDifferences root below changes old new (path ∷ []) text text
  outside path text is = passed path text (ap (λ t. t && differ_at old new path) is)

  both : (a b c d : Bool) → a ≡ c → b ≡ d → (a && b) ≡ (c && d)
  both a b c d e f = ap (λ t. t && b) e ∙ ap (λ t. c && t) f

  pub alike : (path text : List ℕ) → is_within root below path ≡ true → differ_at old new path ≡ false → AppendsDifferences root below changes old new (path ∷ []) text text
  alike path text is not = passed path text (both (is_within root below path) (differ_at old new path) true false is not)

  pub appended : (r : Result (Unit {0}) NoMemory) (path text text' : List ℕ) (last : Option LastChange) → is_within root below path ≡ true → differ_at old new path ≡ true → last ≡ option_map last_of (stamp_at changes path)
      → OnOk r (AppendsChangeLine path last (side_at old path) (side_at new path) text text') → OnOk r (AppendsDifferences root below changes old new (path ∷ []) text text')
  appended (Ok done) path text text' last is differ known h =
      let line = subst (λ (l : Option LastChange). AppendsChangeLine path l (side_at old path) (side_at new path) text text') known h in
      subst (λ t. AppendsLines (IsDifferenceLine changes old new) (cond t (path ∷ []) []) text text') (sym (both (is_within root below path) (differ_at old new path) true true is differ))
      (line.0, (line.0, [], line.1, refl, sym (append-nil line.0)), line.2)
  appended (Err failed) path text text' last is differ known h = tt

  joined : (xs ys : List (List ℕ)) (start middle end' : List ℕ) → AppendsLines (IsDifferenceLine changes old new) xs start middle → AppendsLines (IsDifferenceLine changes old new) ys middle end' → AppendsLines (IsDifferenceLine changes old new) (xs ++ ys) start end'
  joined xs ys start middle end' (a, are, e) (b, also, f) = (a ++ b, lines_joined (IsDifferenceLine changes old new) xs ys a b are also, f ∙ ap (λ t. t ++ b) e ∙ append_assoc start a b)

  next_by : (t : Bool) (x : List ℕ) (xs : List (List ℕ)) (start middle end' : List ℕ) → AppendsLines (IsDifferenceLine changes old new) (cond t (x ∷ []) []) start middle → AppendsLines (IsDifferenceLine changes old new) xs middle end' → AppendsLines (IsDifferenceLine changes old new) (cond t (x ∷ xs) xs) start end'
  next_by true x xs start middle end' one more = joined (x ∷ []) xs start middle end' one more
  next_by false x xs start middle end' one more = joined [] xs start middle end' one more

  pub next_paths : (paths : List (Bor (List ℕ))) (i : ℕ) (d : Bor (List ℕ)) (start middle end' : List ℕ) → i < length paths
      → (let path : Bor (List ℕ) = get_or paths i d in AppendsDifferences root below changes old new (path.now ∷ []) start middle)
      → AppendsDifferences root below changes old new (map (λ (path : Bor (List ℕ)). path.now) (drop (i + 1) paths)) middle end'
      → AppendsDifferences root below changes old new (map (λ (path : Bor (List ℕ)). path.now) (drop i paths)) start end'
  next_paths paths i d start middle end' lt one more =
      let texts = map (λ (path : Bor (List ℕ)). path.now) in
      let path : Bor (List ℕ) = get_or paths i d in
      subst (λ (l : List (Bor (List ℕ))). AppendsDifferences root below changes old new (texts l) start end') (sym (drop_more paths i d lt))
      (next_by (differ_within root below old new path.now) path.now (filter (differ_within root below old new) (texts (drop (i + 1) paths))) start middle end' one more)

-- ---- all lines

pub whole : (changes : Track) (old new : NodeMap) (root path : List ℕ) (below : Bool) (start text : List ℕ) → root ≡ path → below ≡ true → start ≡ [] → AppendsLines (IsDifferenceLine changes old new) (differing root below old new) start text → AreLines (IsDifferenceLine changes old new) (differing path true old new) text
whole changes old new root path below start text is is_below none h =
    let all : text ≡ h.0 = h.2 ∙ ap (λ t. t ++ h.0) none in
    let lines = subst (λ (t : List ℕ). AreLines (IsDifferenceLine changes old new) (differing root below old new) t) (sym all) h.1 in
    subst (λ (b : Bool). AreLines (IsDifferenceLine changes old new) (differing path b old new) text) is_below (subst (λ (p : List ℕ). AreLines (IsDifferenceLine changes old new) (differing p below old new) text) is lines)

pub found : (snapshots : Option (List (List ℕ))) (snapshot_bytes : List ℕ → Option (List ℕ)) (logs : Option (List (List ℕ))) (log_bytes : List ℕ → Option (List ℕ)) (from to : Upto) (path : List ℕ) (both : Compared) (noticed : Noticed) → FindsCompared snapshots snapshot_bytes logs log_bytes from to (Ok both)
    → AreLines (IsDifferenceLine both.changes both.old.state.nodes both.new.state.nodes) (differing path true both.old.state.nodes both.new.state.nodes) (string_bytes noticed.text) → noticed.notices ≡ both.notices → FindsDifference snapshots snapshot_bytes logs log_bytes from to path (Ok noticed)
found snapshots snapshot_bytes logs log_bytes from to path both noticed h are same = record {
  old = both.old.state;
  new = both.new.state;
  changes = both.changes;
  compared = subst (λ (s : String Global). AreCompared snapshots snapshot_bytes logs log_bytes from to both.old.state both.new.state both.changes (string_bytes s)) (sym same) h.0;
  are = are;
}
