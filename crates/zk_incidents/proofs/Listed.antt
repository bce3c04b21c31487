-- A transaction without a line changes nothing.
use Rattle.std.proofs.Common.{◌≡◌, ℕ, Bool, true, false, cond, List, [], ◌∷◌, codes, refl, sym, ap, ◌∙◌}
use Rattle.std.specs.List.{AllByRecursion, filter, flat_map, list_any}
use Rattle.std.specs.Str.{bytes_eq}
use Rattle.zk_incidents.specs.Listings.{AreKnown, Changes, IsLineOf, KnowsOwners, ListsChanges, after, begins_with_slash}
use Rattle.zk_incidents.specs.Histories.{IsHistoryFrom, IsLineBy}
use Rattle.zk_incidents.specs.Owners.{Owned, owned_after, touched, touched_by}
use Rattle.zk_incidents.specs.Within.{is_within}
use Rattle.zk_incidents.specs.Writes.{written_part}
use Rattle.zk_newer_records.specs.declared.newer_record.NewerRecord.{NewerRecord}
use Rattle.zk_table.specs.Multis.{nodes_after}
use Rattle.zk_table.specs.Operations.{without_all}
use Rattle.zk_table.specs.States.{NodeMap, State}
use Rattle.zk_table.specs.Steps.{step_by}
use Rattle.zk_table.specs.Parts.{is_error}
use Rattle.zk_table.specs.declared.sub.Sub.{Sub}
use Rattle.zk_table.specs.declared.sub.Sub.TheVariants as subs
use Rattle.zk_table.specs.declared.txn.Op.{Op}
use Rattle.zk_table.specs.declared.txn.Op.TheVariants as ops
use Rattle.zk_table.specs.declared.txn.Txn.{Txn}

-- ---- operations that touch no node

abbrev UntouchedBy : Txn → NodeMap → Bool → List Sub → Type 0
UntouchedBy txn nodes b parts = cond b [] (flat_map written_part parts) ≡ [] → cond b nodes (nodes_after txn nodes parts) ≡ nodes

parts_change_nothing : (txn : Txn) (nodes : NodeMap) (parts : List Sub) → flat_map written_part parts ≡ [] → nodes_after txn nodes parts ≡ nodes
parts_change_nothing txn nodes [] e = refl
parts_change_nothing txn nodes (subs.Create path content acl ephemeral count ∷ parts) e = cc
parts_change_nothing txn nodes (subs.Delete path ∷ parts) e = cc
parts_change_nothing txn nodes (subs.SetData path content version ∷ parts) e = cc
parts_change_nothing txn nodes (subs.Check path version ∷ parts) e = parts_change_nothing txn nodes parts e
parts_change_nothing txn nodes (subs.Error code ∷ parts) e = parts_change_nothing txn nodes parts e

multi_changes_nothing : (b : Bool) (state : State) (txn : Txn) (parts : List Sub) → list_any is_error parts ≡ b → cond b [] (flat_map written_part parts) ≡ [] → (step_by state txn (ops.Multi parts)).0.nodes ≡ state.nodes
multi_changes_nothing true state txn parts is e = rw is refl
multi_changes_nothing false state txn parts is e = rw is (parts_change_nothing txn state.nodes parts e)

op_changes_nothing : (state : State) (owned : Owned) (newer : NewerRecord) (op : Op) → KnowsOwners state owned newer op → touched_by owned newer op ≡ [] → (step_by state newer.txn op).0.nodes ≡ state.nodes
op_changes_nothing state owned newer (ops.Create path content acl ephemeral count) k e = cc
op_changes_nothing state owned newer (ops.CreateOld path content acl ephemeral) k e = cc
op_changes_nothing state owned newer (ops.Delete path) k e = cc
op_changes_nothing state owned newer (ops.SetData path content version) k e = cc
op_changes_nothing state owned newer (ops.SetAcl path acl version) k e = cc
op_changes_nothing state owned newer (ops.OpenSession timeout) k e = refl
op_changes_nothing state owned newer ops.CloseSession k e = ap (without_all newer.txn state.nodes) (sym k ∙ e)
op_changes_nothing state owned newer (ops.Multi parts) k e = multi_changes_nothing (list_any is_error parts) state newer.txn parts refl e
op_changes_nothing state owned newer (ops.Error code) k e = refl

-- ---- the root covers each path

covered_by : (b : Bool) (path : List ℕ) → bytes_eq path (codes "/") ≡ b → begins_with_slash path → is_within (codes "/") true path ≡ true
covered_by true path is slash = rw is refl
covered_by false path is slash = rw is slash

none_seen : (path : List ℕ) (paths seen : List (List ℕ)) (b : Bool) → b ≡ true → cond b (path ∷ seen) seen ≡ [] → ⊥
none_seen path paths seen true is e = cc
none_seen path paths seen false is e = cc

-- no node is seen, so none is touched
none_touched : (paths : List (List ℕ)) → AllByRecursion begins_with_slash paths → filter (is_within (codes "/") true) paths ≡ [] → paths ≡ []
none_touched [] all e = refl
none_touched (path ∷ paths) all e = absurd (none_seen path paths (filter (is_within (codes "/") true) paths) (is_within (codes "/") true path) (covered_by (bytes_eq path (codes "/")) path refl all.0) e)

-- ---- lines

line_by : (state : State) (owned : Owned) (newer : NewerRecord) (seen : List (List ℕ)) (line : List ℕ) → filter (is_within (codes "/") true) (touched owned newer) ≡ seen → AllByRecursion begins_with_slash (touched owned newer) → KnowsOwners state owned newer newer.txn.op → IsLineBy true newer seen line
    → Changes state newer → IsLineOf newer line
line_by state owned newer [] line is all known h changes = absurd (changes (op_changes_nothing state owned newer newer.txn.op known (none_touched (touched owned newer) all is)))
line_by state owned newer (path ∷ paths) line is all known h changes = (path, paths, h)

pub listed : (state : State) (owned : Owned) (records : List NewerRecord) (text : List ℕ) → AreKnown state owned records → IsHistoryFrom (codes "/") true owned records text → ListsChanges state records text
listed state owned [] text known e = e
listed state owned (newer ∷ records) text known (line, rest, one, more, is) =
    (line, rest, line_by state owned newer (filter (is_within (codes "/") true) (touched owned newer)) line refl known.0 known.1 one, listed (after state newer) (owned_after owned newer) records rest known.2 more, is)
