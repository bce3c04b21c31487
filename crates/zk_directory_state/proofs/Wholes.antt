-- From the first file to the state.
use Rattle.std.proofs.Common.{◌≡◌, ◌⊎◌, ℕ, ℤ, ◌+◌, Bool, true, false, inl, inr, List, [], length, map, take, Option, Some, Result, Ok, Err, refl, sym, ap, ◌∙◌, subst}
use Rattle.std.specs.Borrow.{Bor}
use Rattle.zk_table.specs.Histories.{state_after}
use Rattle.zk_table.specs.States.{State}
use Rattle.std.specs.FinMap.{empty}
use Rattle.zk_replay.specs.Bases.{IsDraftOf, IsFault, drafted}
use Rattle.zk_replay.specs.declared.draft.Draft.{Draft}
use Rattle.zk_replay.specs.declared.fault.BaseFault.{BaseFault}
use Rattle.zk_replay.specs.declared.fault.BaseFault.TheVariants as base_faults
use Rattle.zk_directory.specs.Chains.{history_of}
use Rattle.zk_directory.specs.Joints.{joints_of}
use Rattle.zk_directory.specs.declared.file.LogFile.{LogFile}
use Rattle.zk_newer_records.specs.declared.newer_record.NewerRecord.{NewerRecord}
use Rattle.zk_replay.specs.declared.stage.Stage.{Stage}
use Rattle.zk_replay.specs.declared.stage.Stage.TheVariants as stages
use Rattle.zk_replay.specs.Tallies.{all_taken, start_tally, stored_tally}
use Rattle.zk_replay.specs.declared.count.DigestCount.{DigestCount}
use Rattle.zk_directory_state.proofs.Tallying.{IsCountAfter, count_is, counts_after}
use Rattle.zk_directory_state.proofs.Leading.{leads}
use Rattle.zk_directory_state.specs.Counts.{IsCountFrom, IsCountOf, first_tally}
use Rattle.zk_replay.specs.Restoring.{finish_fault}
use Rattle.zk_snapshot.specs.declared.snapshot.Contents.{Contents}
use Rattle.zk_directory_state.specs.Directories.{AreAllRead, AreLogFiles, Breaks, EndsBroken, EndsShort, FailsBy, FailsIn, IsStateOf, Reads, Restores, StartsBroken, read_files, reading_by, start_reading}
use Rattle.zk_directory_state.specs.Ends.{last_time}
use Rattle.zk_directory_state.specs.Joins.{Reading, Window, fault_of_base, window_fault}
use Rattle.zk_directory_state.specs.Restorations.{Begins, Finishes, IsBegun, IsFinished, IsFirstStage, base_fault, exact_of, first_draft, first_window, is_before, is_early, is_short, reading_of, reading_with, start_of, window_of}
use Rattle.zk_directory_state.specs.States.{IsStateAfter, IsStateFrom, txn_of}
use Rattle.zk_directory_state.specs.declared.restored_directory.Progress.{Progress}
use Rattle.zk_directory_state.specs.declared.restored_directory.Restored.{Restored}
use Rattle.zk_directory_state.specs.declared.restore_fault.RestoreFault.{RestoreFault}
use Rattle.zk_directory_state.specs.declared.restore_fault.RestoreFault.TheVariants as faults
use Rattle.zk_directory_state.specs.declared.restoration.Base.{Base}
use Rattle.zk_directory_state.specs.declared.restoration.Base.TheVariants as bases
use Rattle.zk_directory_state.specs.declared.restoration.Restore.{Restore}

-- the state after a first stage is that of its base
from_base : (base : Base) (stage : Stage) (records : List NewerRecord) (state : State) → IsFirstStage base stage → IsStateAfter stage (exact_of base) records state → IsStateOf base records state
from_base bases.Empty (stages.Window draft last) records state first after = absurd first
from_base bases.Empty (stages.Table table) records state first after = after ∙ ap (λ s. state_after s (map txn_of records)) first.0
from_base (bases.Snapshot contents zxid exact) (stages.Window draft last) records state first after =
    (draft, first.0, subst (λ z. IsStateFrom draft z exact records state) first.1 after)
from_base (bases.Snapshot contents zxid exact) (stages.Table table) records state first after = absurd first

-- the digests after a first stage are those of its base
count_from_base : (base : Base) (stage : Stage) (records : List NewerRecord) (count : DigestCount) → IsFirstStage base stage → IsCountAfter stage (exact_of base) records (first_tally base) count → IsCountOf base records count
count_from_base bases.Empty (stages.Window draft last) records count first after = absurd first
count_from_base bases.Empty (stages.Table table) records count first after = after ∙ ap (λ s. (all_taken start_tally s records).count) first.0
count_from_base (bases.Snapshot contents zxid exact) (stages.Window draft last) records count first after =
    (draft, first.0, subst (λ z. IsCountFrom draft z exact records (stored_tally contents.now) count) first.1 after)
count_from_base (bases.Snapshot contents zxid exact) (stages.Table table) records count first after = absurd first

-- ---- the window

pub same_draft : (contents : Contents) (draft : Draft) → IsDraftOf contents draft → draft ≡ first_draft contents
same_draft contents draft is =
    ap (λ n. let d : Draft = record { nodes = n; sessions = draft.sessions } in d) is.nodes
    ∙ ap (λ m. let d : Draft = record { nodes = drafted contents.accesses empty contents.nodes; sessions = m } in d) is.sessions

first_is : (base : Base) (stage : Stage) → IsFirstStage base stage → window_of stage (exact_of base) ≡ first_window base
first_is bases.Empty (stages.Window draft last) first = absurd first
first_is bases.Empty (stages.Table table) first = refl
first_is (bases.Snapshot contents zxid exact) (stages.Window draft last) first = ap (λ d. let w : Window = Some (d, exact) in w) (same_draft contents.now draft first.0)
first_is (bases.Snapshot contents zxid exact) (stages.Table table) first = absurd first

start_is : (base : Base) (upto : Option ℤ) (start : Restore) → IsBegun base upto start → reading_of start ≡ start_reading base upto
start_is base upto start begun =
    ap (λ h. let r : Reading = record { history = h; records = []; window = window_of start.stage start.exact; is_over = false } in r) begun.history
    ∙ ap (λ w. let r : Reading = record { history = start_of base upto; records = []; window = w; is_over = false } in r) (ap (window_of start.stage) begun.exact ∙ first_is base start.stage begun.stage)

finish_is : (stage : Stage) (exact : ℤ) → window_fault (window_of stage exact) ≡ finish_fault stage
finish_is (stages.Window draft last) exact = refl
finish_is (stages.Table table) exact = refl

-- ---- whole directories

-- what was read from the start, from the base
from_start : (base : Base) (upto : Option ℤ) (start : Restore) (files : List LogFile) (x : Result Reading RestoreFault) → IsBegun base upto start → read_files (Ok (reading_of start)) files ≡ x → reading_by base upto files ≡ x
from_start base upto start files x begun read =
    sym (ap (λ r. read_files (Ok r) files) (start_is base upto start begun)) ∙ read

position_is : (restore : Restore) (exact : ℤ) (short : Bool) → restore.exact ≡ exact → is_short restore ≡ short → is_before (history_of restore.chain).position exact ≡ short
position_is restore exact short e s = sym (ap (is_before restore.chain.position) e) ∙ s

-- how far the logs were read
reads : (base : Base) (upto : Option ℤ) (logs : List (Bor (List ℕ))) (start : Restore) (progress : Progress) (read : ℕ) → IsBegun base upto start → (all : AreAllRead start logs progress) → read ≡ progress.read → Reads base upto logs read (reading_with progress.restore all.after.records all.over)
reads base upto logs start progress read begun all same =
    let after = all.after in
    record {
      in_time = begun.in_time;
      sound = begun.sound;
      files = after.files;
      of_logs = subst (λ n. AreLogFiles (take n logs) after.files) (sym same) after.of_logs;
      of_files = from_start base upto start after.files (Ok (reading_with progress.restore after.records all.over)) begun after.of_files;
      enough = subst (λ n. (n ≡ length logs) ⊎ (all.over ≡ true)) (sym same) all.enough;
    }

pub restores : (base : Base) (upto : Option ℤ) (logs : List (Bor (List ℕ))) (start : Restore) (progress : Progress) (restored : Restored) → IsBegun base upto start → AreAllRead start logs progress → IsFinished progress.restore restored.table
    → restored.read ≡ progress.read → restored.ending ≡ progress.ending → restored.position ≡ progress.restore.chain.position → restored.digests ≡ progress.restore.digests.count
    → restored.next ≡ progress.next → restored.time ≡ last_time (history_of progress.restore.chain).taken → restored.joints.items ≡ joints_of (history_of progress.restore.chain) progress.restore.digests.count.last → Restores base upto logs restored
unfolding reads
restores base upto logs start progress restored begun all finished same ending position digests next time joints =
    let after = all.after in
    let exact : progress.restore.exact ≡ exact_of base = after.exact ∙ begun.exact in
    record {
      reading = reading_with progress.restore after.records all.over;
      reads = reads base upto logs start progress restored.read begun all same;
      long = position_is progress.restore (exact_of base) false exact finished.long;
      whole = finish_is progress.restore.stage progress.restore.exact ∙ finished.whole;
      position = position;
      state =
          from_base base start.stage after.records restored.table.state begun.stage
          (subst (λ z. IsStateAfter start.stage z after.records restored.table.state) begun.exact (leads start.stage start.exact after.records progress.restore.stage restored.table.state after.stage finished.state));
      digests =
          let end = after.counted (first_tally base) begun.tally in
          subst (IsCountOf base after.records) (sym (digests ∙ count_is progress.restore.stage progress.restore.digests end.0 end.2))
          (count_from_base base start.stage after.records end.0.count begun.stage
          (subst (λ z. IsCountAfter start.stage z after.records (first_tally base) end.0.count) begun.exact (counts_after start.stage start.exact after.records (first_tally base) progress.restore.stage end.0 restored.table.state end.1 finished.state)));
      ending = ending ∙ after.last;
      next = next ∙ all.next;
      time = time;
      joints = joints ∙ ap (λ (count : DigestCount). joints_of (history_of progress.restore.chain) count.last) (sym digests);
    }

ends_short : (base : Base) (upto : Option ℤ) (logs : List (Bor (List ℕ))) (start : Restore) (progress : Progress) → IsBegun base upto start → AreAllRead start logs progress → is_short progress.restore ≡ true → EndsShort base upto logs progress.read
ends_short base upto logs start progress begun all short = record {
  reading = reading_with progress.restore all.after.records all.over;
  reads = reads base upto logs start progress progress.read begun all refl;
  short = position_is progress.restore (exact_of base) true (all.after.exact ∙ begun.exact) short;
}

ends_broken : (base : Base) (upto : Option ℤ) (logs : List (Bor (List ℕ))) (start : Restore) (progress : Progress) (fault : BaseFault) → IsBegun base upto start → AreAllRead start logs progress → is_short progress.restore ≡ false → finish_fault progress.restore.stage ≡ Some fault → EndsBroken base upto logs progress.read fault
ends_broken base upto logs start progress fault begun all long broken = record {
  reading = reading_with progress.restore all.after.records all.over;
  reads = reads base upto logs start progress progress.read begun all refl;
  long = position_is progress.restore (exact_of base) false (all.after.exact ∙ begun.exact) long;
  broken = finish_is progress.restore.stage progress.restore.exact ∙ broken;
}

breaks : (base : Base) (upto : Option ℤ) (logs : List (Bor (List ℕ))) (start : Restore) (log : ℕ) (fault : RestoreFault) (files : List LogFile) → IsBegun base upto start → AreLogFiles (take (log + 1) logs) files → read_files (Ok (reading_of start)) files ≡ Err fault → Breaks base upto logs log fault
breaks base upto logs start log fault files begun of_logs of_files = record {
  in_time = begun.in_time;
  sound = begun.sound;
  files = files;
  of_logs = of_logs;
  of_files = from_start base upto start files (Err fault) begun of_files;
}

-- ---- the faults of a start, of the logs, and of an end

starts_broken : (base : Base) (upto : Option ℤ) (fault : BaseFault) → is_early base upto ≡ false → base_fault base ≡ Some fault → StartsBroken base upto fault
starts_broken base upto fault in_time broken = record { in_time = in_time; broken = broken }

pub start_fails : (base : Base) (upto : Option ℤ) (logs : List (Bor (List ℕ))) (log : ℕ) (fault : RestoreFault) → Begins base upto (Err fault) → FailsBy base upto logs log fault
start_fails base upto logs log (faults.Purged first) b = absurd b
start_fails base upto logs log (faults.Gap from to) b = absurd b
start_fails base upto logs log (faults.Differs at) b = absurd b
start_fails base upto logs log (faults.Short exact) b = absurd b
start_fails base upto logs log (faults.Early exact) b = b
start_fails base upto logs log (faults.Log broken) b = absurd b
start_fails base upto logs log faults.Tree b = inl (starts_broken base upto base_faults.Tree b.0 b.1)
start_fails base upto logs log faults.Access b = inl (starts_broken base upto base_faults.Access b.0 b.1)
start_fails base upto logs log faults.NoMemory b = b

pub logs_fail : (base : Base) (upto : Option ℤ) (logs : List (Bor (List ℕ))) (start : Restore) (log : ℕ) (fault : RestoreFault) → IsBegun base upto start → FailsIn start logs log fault → FailsBy base upto logs log fault
logs_fail base upto logs start log (faults.Purged first) begun f = breaks base upto logs start log (faults.Purged first) f.files begun f.of_logs f.of_files
logs_fail base upto logs start log (faults.Gap from to) begun f = breaks base upto logs start log (faults.Gap from to) f.files begun f.of_logs f.of_files
logs_fail base upto logs start log (faults.Differs at) begun f = breaks base upto logs start log (faults.Differs at) f.files begun f.of_logs f.of_files
logs_fail base upto logs start log (faults.Short exact) begun f = absurd f.of_files
logs_fail base upto logs start log (faults.Early exact) begun f = absurd f.of_files
logs_fail base upto logs start log (faults.Log broken) begun f = breaks base upto logs start log (faults.Log broken) f.files begun f.of_logs f.of_files
logs_fail base upto logs start log faults.Tree begun f = inr (inl (breaks base upto logs start log faults.Tree f.files begun f.of_logs f.of_files))
logs_fail base upto logs start log faults.Access begun f = inr (inl (breaks base upto logs start log faults.Access f.files begun f.of_logs f.of_files))
logs_fail base upto logs start log faults.NoMemory begun f = begun.in_time

pub end_fails : (base : Base) (upto : Option ℤ) (logs : List (Bor (List ℕ))) (start : Restore) (progress : Progress) (fault : RestoreFault) → IsBegun base upto start → AreAllRead start logs progress → Finishes progress.restore (Err fault) → FailsBy base upto logs progress.read fault
end_fails base upto logs start progress (faults.Purged first) begun all f = absurd f
end_fails base upto logs start progress (faults.Gap from to) begun all f = absurd f
end_fails base upto logs start progress (faults.Differs at) begun all f = absurd f
end_fails base upto logs start progress (faults.Short exact) begun all f = (ends_short base upto logs start progress begun all f.0, f.1 ∙ all.after.exact ∙ begun.exact)
end_fails base upto logs start progress (faults.Early exact) begun all f = absurd f
end_fails base upto logs start progress (faults.Log broken) begun all f = absurd f
end_fails base upto logs start progress faults.Tree begun all f = inr (inr (ends_broken base upto logs start progress base_faults.Tree begun all f.0 f.1))
end_fails base upto logs start progress faults.Access begun all f = inr (inr (ends_broken base upto logs start progress base_faults.Access begun all f.0 f.1))
end_fails base upto logs start progress faults.NoMemory begun all f = begun.in_time

-- ---- the faults of a snapshot

pub begin_fails : (base : Base) (upto : Option ℤ) (failed : BaseFault) (fault : RestoreFault) → is_early base upto ≡ false → IsFault (base_fault base) failed → fault ≡ fault_of_base failed → Begins base upto (Err fault)
begin_fails base upto base_faults.Tree fault in_time f e = subst (λ f. Begins base upto (Err f)) (sym e) (in_time, f)
begin_fails base upto base_faults.Access fault in_time f e = subst (λ f. Begins base upto (Err f)) (sym e) (in_time, f)
begin_fails base upto base_faults.NoMemory fault in_time f e = subst (λ f. Begins base upto (Err f)) (sym e) in_time

pub finish_fails : (restore : Restore) (failed : BaseFault) (fault : RestoreFault) → is_short restore ≡ false → IsFault (finish_fault restore.stage) failed → fault ≡ fault_of_base failed → Finishes restore (Err fault)
finish_fails restore base_faults.Tree fault long f e = subst (λ f. Finishes restore (Err f)) (sym e) (long, f)
finish_fails restore base_faults.Access fault long f e = subst (λ f. Finishes restore (Err f)) (sym e) (long, f)
finish_fails restore base_faults.NoMemory fault long f e = subst (λ f. Finishes restore (Err f)) (sym e) long
