-- The answer of an ensemble to a command of a run script. This project's own.
use Rattle.std.specs.Prelude.{◌≡◌, ◌++◌, ℕ, List, length, replicate, Result, Err, OnOk}
use Rattle.zab_epoch.specs.Entries.{txns_of}
use Rattle.zab_model.specs.Runs.{delivered_of, history_of, syncs_of}
use Rattle.zab_model.specs.Worlds.{new_world}
use Rattle.zk_ensemble.specs.Views.{EnsembleView, state_of, profile_in, tree_in, answers_in, events_in}
use Rattle.zk_path.specs.declared.memory.NoMemory.{NoMemory}
use Rattle.zk_request_syntax.specs.ReplyLines.{refusal_text}
use Rattle.zk_run_script.specs.Answers.{told_text, listing_report, answers_report, syncs_report, events_report, counted_tree}
use Rattle.zk_run_script.specs.declared.command.Command.{Command}
use Rattle.zk_run_script.specs.declared.command.Command.TheVariants as commands
use Rattle.zk_run_script.specs.declared.command.Report.{Report}
use Rattle.zk_run_script.specs.declared.command.Report.TheVariants as reports
use Rattle.zk_model.specs.declared.event.Event.{Event}
use Rattle.zk_model.specs.declared.fault.EnsembleFault.TheVariants as faults
use Rattle.zk_model.specs.Counting.{counted, IsAnswered}
use Rattle.zk_model.specs.Ensembles.{Told, fresh, replica_at}
use Rattle.zk_model.specs.Runs.{after}
use Rattle.zk_listing.specs.Reports.{line}
use Rattle.zk_table.specs.Codes.{bad_arguments}

-- a new ensemble with one server for each weight
abbrev pub started : List ℕ → EnsembleView
started weights = record {
  below = record { quorums = weights; servers = length weights; world = new_world (length weights) };
  shown = replicate (length weights) fresh;
}

-- An event with this answer in the ensemble: if no memory was left, it did not happen, or its
-- server crashed instead; otherwise it happened, with its answer in a run.
pub record Happened (old : EnsembleView) (event : Event) (told : Told) (new : EnsembleView) : Type 0 where
  pub counts : state_of new ≡ after (profile_in old.below) (state_of old) (counted event told)
  pub answers : IsAnswered (profile_in old.below) (state_of old) event told
  pub unchanged : told ≡ Err faults.NoMemory → new ≡ old
  pub same : (new.below.quorums ≡ old.below.quorums) × (new.below.servers ≡ old.below.servers)

-- the report on a server
abbrev pub report_text : EnsembleView → Report → ℕ → List ℕ
report_text it reports.Delivered server = listing_report (txns_of (delivered_of it.below.world server))
report_text it reports.History server = listing_report (txns_of (history_of it.below.world server))
report_text it reports.Answers server = answers_report (answers_in (replica_at it.shown server))
report_text it reports.Syncs server = syncs_report (syncs_of it.below.world server)
report_text it reports.Events server = events_report (events_in (replica_at it.shown server))
report_text it reports.Tree server = counted_tree (tree_in (replica_at it.shown server))

-- the answer to a command, with its newlines, and the ensemble after it
abbrev pub Answers : EnsembleView → Command → List ℕ → EnsembleView → Type 0
Answers old (commands.Happens event) answer new = (told : Told) × Happened old event told new × (answer ≡ line (told_text told))
Answers old commands.ReadsNoPath answer new = (new ≡ old) × (answer ≡ line (refusal_text bad_arguments))
Answers old (commands.Reports report server) answer new = (new ≡ old) × (answer ≡ report_text old report server)

-- the ensemble executes a command, and its answer is appended unless an allocation for it fails
pub record Obeys (old : EnsembleView) (command : Command) (before : List ℕ) (result : Result (Unit {0}) NoMemory) (after : List ℕ) (new : EnsembleView) : Type 0 where
  pub answer : List ℕ
  pub answers : Answers old command answer new
  pub told : OnOk result (after ≡ before ++ answer)
