-- The survey, entry by entry and log by log.
use Rattle.std.proofs.Common.{◌≡◌, ℕ, ℤ, ◌+◌, ◌<◌, ◌≤◌, true, List, [], ◌∷◌, length, drop, get_or, Result, Ok, Err, OnOk, refl, sym, ap, ◌∙◌, subst}
use Rattle.zk_replay.proofs.Turning.{next_is, at_end}
use Rattle.zk_directory.specs.IntactLogs.{IsIntactLog}
use Rattle.zk_directory.specs.declared.file.FileEntry.{FileEntry}
use Rattle.zk_directory.specs.declared.file.LogFileFault.{LogFileFault}
use Rattle.zk_directory.specs.declared.intact_log.IntactLog.{IntactLog}
use Rattle.zk_directory.specs.declared.intact_log.Resumption.{Resumption}
use Rattle.zk_log.specs.declared.loaded.Ending.{Ending}
use Rattle.zk_path.specs.declared.memory.NoMemory.{NoMemory}
use Rattle.zk_verification.specs.Surveys.{AreSurveyed, Surveyed, Surveys, SurveysBy, run_from, survey_end, survey_entries, survey_entry, survey_file, survey_run, survey_runs}
use Rattle.zk_verification.specs.declared.log_bytes.LogBytes.{LogBytes}

-- ---- entries

no_entry : (log : ℤ) (s : Surveyed) → survey_entries log s [] ≡ s
unfolding survey_entries
no_entry log s = refl

entry_on : (log : ℤ) (s : Surveyed) (entry : FileEntry) (entries : List FileEntry) → survey_entries log s (entry ∷ entries) ≡ survey_entries log (survey_entry log s entry) entries
unfolding survey_entries
entry_on log s entry entries = refl

pub surveys_on : (log : ℤ) (s new all : Surveyed) (entries : List FileEntry) (i : ℕ) (entry : FileEntry) → i < length entries → entry ≡ get_or entries i entry → new ≡ survey_entry log s entry → all ≡ survey_entries log s (drop i entries) → all ≡ survey_entries log new (drop (i + 1) entries)
surveys_on log s new all entries i entry lt is one so_far =
    so_far
    ∙ ap (survey_entries log s) (next_is entries i entry lt is)
    ∙ entry_on log s entry (drop (i + 1) entries)
    ∙ ap (λ t. survey_entries log t (drop (i + 1) entries)) (sym one)

pub all_surveyed : (log : ℤ) (s all : Surveyed) (entries : List FileEntry) (i : ℕ) → length entries ≤ i → all ≡ survey_entries log s (drop i entries) → s ≡ all
all_surveyed log s all entries i le so_far = sym (so_far ∙ ap (survey_entries log s) (at_end entries i le) ∙ no_entry log s)

-- ---- intact entries after damaged places

pub run_first : (r : Result (Unit {0}) NoMemory) (log : ℤ) (stop : Result Ending LogFileFault) (old new : Surveyed) (run : Resumption) (entry : FileEntry) (rest : List FileEntry) → run.file.entries.items ≡ entry ∷ rest
    → OnOk r (new ≡ run_from log stop old run (entry ∷ rest)) → OnOk r (new ≡ survey_run log stop old run)
run_first r log stop old new run entry rest is h = subst (λ (l : List FileEntry). OnOk r (new ≡ run_from log stop old run l)) (sym is) h

pub run_none : (log : ℤ) (stop : Result Ending LogFileFault) (old : Surveyed) (run : Resumption) → run.file.entries.items ≡ [] → old ≡ survey_run log stop old run
run_none log stop old run none = sym (ap (run_from log stop old run) none)

no_run : (log : ℤ) (stop : Result Ending LogFileFault) (s : Surveyed) → survey_runs log stop [] s ≡ survey_end log stop s
unfolding survey_runs
no_run log stop s = refl

run_on : (log : ℤ) (stop : Result Ending LogFileFault) (run : Resumption) (runs : List Resumption) (s : Surveyed) → survey_runs log stop (run ∷ runs) s ≡ survey_runs log run.file.outcome runs (survey_run log stop s run)
unfolding survey_runs
run_on log stop run runs s = refl

pub runs_on : (log : ℤ) (stop : Result Ending LogFileFault) (s new all : Surveyed) (runs : List Resumption) (i : ℕ) (run : Resumption) → i < length runs → run ≡ get_or runs i run → new ≡ survey_run log stop s run → all ≡ survey_runs log stop (drop i runs) s → all ≡ survey_runs log run.file.outcome (drop (i + 1) runs) new
runs_on log stop s new all runs i run lt is one so_far =
    so_far
    ∙ ap (λ (rs : List Resumption). survey_runs log stop rs s) (next_is runs i run lt is)
    ∙ run_on log stop run (drop (i + 1) runs) s
    ∙ ap (λ (t : Surveyed). survey_runs log run.file.outcome (drop (i + 1) runs) t) (sym one)

pub all_run : (log : ℤ) (stop : Result Ending LogFileFault) (s all : Surveyed) (runs : List Resumption) (i : ℕ) → length runs ≤ i → all ≡ survey_runs log stop (drop i runs) s → survey_end log stop s ≡ all
all_run log stop s all runs i le so_far = sym (so_far ∙ ap (λ (rs : List Resumption). survey_runs log stop rs s) (at_end runs i le) ∙ no_run log stop s)

pub runs_ended : (r : Result (Unit {0}) NoMemory) (log : ℤ) (stop : Result Ending LogFileFault) (s new all : Surveyed) (runs : List Resumption) (i : ℕ) → length runs ≤ i → all ≡ survey_runs log stop (drop i runs) s → OnOk r (new ≡ survey_end log stop s) → OnOk r (new ≡ all)
runs_ended r log stop s new all runs i le so_far h = subst (λ (t : Surveyed). OnOk r (new ≡ t)) (all_run log stop s all runs i le so_far) h

-- ---- logs

pub next_surveyed : (s next new : Surveyed) (logs : List LogBytes) (i : ℕ) (log : LogBytes) → i < length logs → log ≡ get_or logs i log → Surveys s log next → AreSurveyed next (drop (i + 1) logs) new → AreSurveyed s (drop i logs) new
next_surveyed s next new logs i log lt is one rest = subst (λ l. AreSurveyed s l new) (sym (next_is logs i log lt is)) (next, one, rest)

pub logs_surveyed : (s : Surveyed) (logs : List LogBytes) (i : ℕ) → length logs ≤ i → AreSurveyed s (drop i logs) s
logs_surveyed s logs i le = subst (λ l. AreSurveyed s l s) (sym (at_end logs i le)) refl

-- a log that was read, unless allocation failed
pub log_surveyed : (result : Result (Unit {0}) NoMemory) (old new : Surveyed) (log : LogBytes) (bytes : List ℕ) (file : IntactLog) → log.is_read ≡ true → IsIntactLog bytes file → bytes ≡ log.bytes.items → OnOk result (new ≡ survey_file log.zxid old file) → OnOk result (Surveys old log new)
log_surveyed (Ok done) old new log bytes file read is same one = subst (λ b. SurveysBy b old log new) (sym read) (file, subst (λ l. IsIntactLog l file) same is, one)
log_surveyed (Err failed) old new log bytes file read is same one = tt
