-- The script of a state, or why there is none.
use Rattle.std.proofs.Common.{◌≡◌, ℕ, List, Option, Ok, String}
use Rattle.std.specs.Global.{Global}
use Rattle.std.specs.String.{string_bytes}
use Rattle.zk_directory_state.specs.Histories.{Holds}
use Rattle.zk_directory_state.specs.declared.history.Shown.{Shown}
use Rattle.zk_directory_state.specs.declared.upto.Upto.{Upto}
use Rattle.zk_directory_state.specs.Notices.{notices_of}
use Rattle.zk_tree_changes.specs.ScriptReports.{FindsScript, IsScriptIn}
use Rattle.zk_tree_changes.specs.declared.tree_script.Script.{Script}

module _ (snapshots : Option (List (List ℕ))) (snapshot_bytes : List ℕ → Option (List ℕ)) (logs : Option (List (List ℕ))) (log_bytes : List ℕ → Option (List ℕ)) where
  pub script_found : (upto : Upto) (path : List ℕ) (shown : Shown) (text : Option (String Global)) (notices : String Global) → Holds snapshots snapshot_bytes logs log_bytes upto (Ok shown) → IsScriptIn shown.restored.table.state path text
      → string_bytes notices ≡ notices_of upto shown.restored → (let script : Script = record { text = text; notices = notices } in FindsScript snapshots snapshot_bytes logs log_bytes upto path (Ok script))
  script_found upto path shown text notices h is are = record { shown = shown; holds = h; is = is; notices = are }
