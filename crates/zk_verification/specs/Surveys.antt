-- The logs of a directory, each by itself as far as it can be read, and what is intact after damaged
-- places; and where the history that they hold is broken. An entry before which transactions are
-- missing is taken all the same.
use Rattle.std.specs.Prelude.{◌≡◌, ◌-◌, ℕ, ℤ, pos, Bool, true, false, List, [], ◌∷◌, ◌++◌, length, slice_get, Option, Some, None, OnOk, Result, Ok, Err}
use Rattle.std.specs.Ordering.{int_eq}
use Rattle.zk_directory.specs.Chains.{History, Told, after_turn as chain_after, history_of, turn_of, with_entry}
use Rattle.zk_directory.specs.declared.chain.ChainFault.{ChainFault}
use Rattle.zk_directory.specs.declared.chain.ChainFault.TheVariants as chains
use Rattle.zk_directory.specs.declared.chain.Turn.{Turn}
use Rattle.zk_directory.specs.declared.chain.Turn.TheVariants.{Take, Skip, Stop}
use Rattle.zk_directory.specs.declared.names.FileName.TheVariants as names
use Rattle.zk_directory_state.specs.declared.fault.HistoryFault.{HistoryFault}
use Rattle.zk_directory_state.specs.declared.fault.HistoryFault.TheVariants as faults
use Rattle.zk_log.specs.declared.loaded.Ending.{Ending}
use Rattle.zk_directory.specs.IntactLogs.{IsIntactLog}
use Rattle.zk_directory.specs.declared.file.FileEntry.{FileEntry}
use Rattle.zk_directory.specs.declared.file.LogFileFault.{LogFileFault}
use Rattle.zk_directory.specs.declared.intact_log.IntactLog.{IntactLog}
use Rattle.zk_directory.specs.declared.intact_log.Resumption.{Resumption}
use Rattle.zk_verification.specs.Marks.{log_mark, moment_of}
use Rattle.zk_verification.specs.declared.breaks.Break.{Break}
use Rattle.zk_verification.specs.declared.breaks.Break.TheVariants as breaks
use Rattle.zk_verification.specs.declared.log_bytes.LogBytes.{LogBytes}
use Rattle.zk_verification.specs.declared.mark.Damage.{Damage}
use Rattle.zk_verification.specs.declared.mark.Mark.{Mark}
use Rattle.zk_verification.specs.declared.mark.Mark.TheVariants as marks
use Rattle.zk_verification.specs.declared.mark.Moment.{Moment}
use Rattle.zk_verification.specs.declared.survey.Survey.{Survey}

-- the logs so far
pub record Surveyed : Type 0 where
  pub history : History
  -- the last entry that was taken
  pub last : Option Moment
  pub marks : List Mark
  pub breaks : List Break

abbrev pub start_survey : Surveyed
start_survey = record { history = record { base = None; upto = None; position = None; taken = [] }; last = None; marks = []; breaks = [] }

-- ---- one more

abbrev pub with_mark : Surveyed → Mark → Surveyed
with_mark s mark = record { history = s.history; last = s.last; marks = s.marks ++ mark ∷ []; breaks = s.breaks }

abbrev pub with_wrong : Surveyed → HistoryFault → Surveyed
with_wrong s fault = with_mark s (marks.Wrong fault)

abbrev pub with_break : Surveyed → Break → Surveyed
with_break s place = record { history = s.history; last = s.last; marks = s.marks; breaks = s.breaks ++ place ∷ [] }

-- its zxid and its bytes
abbrev pub told_of : FileEntry → Told
told_of entry = (entry.newer.txn.zxid, entry.bytes.now)

abbrev pub with_taken : Surveyed → FileEntry → Surveyed
with_taken s entry = record { history = with_entry s.history (told_of entry); last = Some (moment_of entry); marks = s.marks; breaks = s.breaks }

-- ---- an entry

-- transactions are missing before it
abbrev pub with_gap : Surveyed → ℤ → ℤ → FileEntry → Surveyed
with_gap s from to entry = with_break (with_mark s (marks.Gap s.last (moment_of entry))) (breaks.Missing from to)

-- the last mark says that an entry of this log differs from an earlier one
abbrev pub is_differing : Option Mark → ℤ → Bool
is_differing (Some (marks.Wrong (faults.Differs marked at))) log = int_eq marked log
is_differing mark log = false

abbrev pub is_marked : List Mark → ℤ → Bool
is_marked all log = is_differing (slice_get all (length all - 1)) log

abbrev pub different_by : Bool → Surveyed → ℤ → ℕ → Surveyed
different_by true s log at = s
different_by false s log at = with_wrong s (faults.Differs log at)

-- of the entries of a log that differ in a row, the first
abbrev pub with_different : Surveyed → ℤ → ℕ → Surveyed
with_different s log at = different_by (is_marked s.marks log) s log at

abbrev pub last_after : Option Moment → FileEntry → Turn → Option Moment
last_after last entry Take = Some (moment_of entry)
last_after last entry Skip = last
last_after last entry Stop = last

abbrev pub after_turn : Surveyed → FileEntry → Turn → Surveyed
after_turn s entry turn = record { history = chain_after s.history (told_of entry) turn; last = last_after s.last entry turn; marks = s.marks; breaks = s.breaks }

abbrev pub survey_by : ℤ → Surveyed → FileEntry → Result Turn ChainFault → Surveyed
survey_by log s entry (Ok turn) = after_turn s entry turn
survey_by log s entry (Err (chains.Purged first)) = with_taken s entry
survey_by log s entry (Err (chains.Gap from to)) = with_taken (with_gap s from to entry) entry
survey_by log s entry (Err chains.Differs) = with_different s log entry.at
survey_by log s entry (Err chains.NoMemory) = s

-- the next entry of a log
abbrev pub survey_entry : ℤ → Surveyed → FileEntry → Surveyed
survey_entry log s entry = survey_by log s entry (turn_of s.history (told_of entry))

unfoldable pub survey_entries : ℤ → Surveyed → List FileEntry → Surveyed
survey_entries log s [] = s
survey_entries log s (entry ∷ entries) = survey_entries log (survey_entry log s entry) entries

-- ---- after damage

-- what lies between two entries of a log
abbrev pub damage_of : ℤ → Result Ending LogFileFault → Resumption → Option Moment → FileEntry → Damage
damage_of log stop run last entry = record { log = log; stop = stop; at = run.from; to = run.to; before = last; after = moment_of entry }

-- that transactions are missing before it is known
abbrev pub resumed_by : ℤ → Surveyed → FileEntry → Result Turn ChainFault → Surveyed
resumed_by log s entry (Ok turn) = after_turn s entry turn
resumed_by log s entry (Err (chains.Purged first)) = with_taken s entry
resumed_by log s entry (Err (chains.Gap from to)) = with_taken s entry
resumed_by log s entry (Err chains.Differs) = with_different s log entry.at
resumed_by log s entry (Err chains.NoMemory) = s

-- the first intact entry
abbrev pub survey_resumed : ℤ → Surveyed → FileEntry → Surveyed
survey_resumed log s entry = resumed_by log s entry (turn_of s.history (told_of entry))

abbrev pub run_from : ℤ → Result Ending LogFileFault → Surveyed → Resumption → List FileEntry → Surveyed
run_from log stop s run [] = s
run_from log stop s run (entry ∷ entries) = survey_entries log (survey_resumed log (with_mark s (marks.Lost (damage_of log stop run s.last entry))) entry) entries

-- the intact entries after a damaged place
abbrev pub survey_run : ℤ → Result Ending LogFileFault → Surveyed → Resumption → Surveyed
survey_run log stop s run = run_from log stop s run run.file.entries.items

-- ---- a log

abbrev pub survey_end : ℤ → Result Ending LogFileFault → Surveyed → Surveyed
survey_end log (Ok ending) s = s
survey_end log (Err fault) s = with_wrong s (faults.Log log fault)

-- all that is intact, from where reading stopped
unfoldable pub survey_runs : ℤ → Result Ending LogFileFault → List Resumption → Surveyed → Surveyed
survey_runs log stop [] s = survey_end log stop s
survey_runs log stop (run ∷ runs) s = survey_runs log run.file.outcome runs (survey_run log stop s run)

abbrev pub is_damaged : Result Ending LogFileFault → List Resumption → Bool
is_damaged (Ok ending) [] = false
is_damaged stop later = true

abbrev pub zxid_of : Option Moment → ℤ
zxid_of None = pos 0
zxid_of (Some moment) = moment.zxid

-- the entries up to the last one, after one of the zxid `from`, are in no place that a server reads
abbrev pub break_by : Bool → Option Moment → Surveyed → Surveyed
break_by false from s = s
break_by true from s = with_break s (breaks.Damaged (zxid_of from) (zxid_of s.last))

abbrev pub survey_rest : ℤ → Surveyed → IntactLog → Surveyed
survey_rest log s file = break_by (is_damaged file.first.outcome file.later.items) s.last (survey_runs log file.first.outcome file.later.items s)

abbrev pub survey_file : ℤ → Surveyed → IntactLog → Surveyed
survey_file log s file = survey_rest log (survey_entries log (with_mark s (log_mark log file.first)) file.first.entries.items) file

abbrev pub SurveysBy : Bool → Surveyed → LogBytes → Surveyed → Type 0
SurveysBy true s log new = (file : IntactLog) × IsIntactLog log.bytes.items file × (new ≡ survey_file log.zxid s file)
SurveysBy false s log new = new ≡ with_wrong s (faults.Unreadable (names.Log log.zxid))

abbrev pub Surveys : Surveyed → LogBytes → Surveyed → Type 0
Surveys s log new = SurveysBy log.is_read s log new

-- logs in order
abbrev pub AreSurveyed : Surveyed → List LogBytes → Surveyed → Type 0
AreSurveyed s [] new = new ≡ s
AreSurveyed s (log ∷ logs) new = (next : Surveyed) × Surveys s log next × AreSurveyed next logs new

-- ---- calls

abbrev pub surveyed_by : Survey → Surveyed
surveyed_by survey = record { history = history_of survey.chain; last = survey.last; marks = survey.marks.items; breaks = survey.breaks.items }
