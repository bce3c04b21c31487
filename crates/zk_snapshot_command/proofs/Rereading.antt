-- The snapshot that a state begins at, which is read a second time.
use Rattle.std.proofs.Common.{◌≡◌, ◌⊎◌, inl, inr, Bor, ℕ, ℤ, List, [], ◌∷◌, Option, Some, None, Result, Ok, Err, refl, sym, ap, ◌∙◌, subst}
use Rattle.zk_directory_state.specs.Attempts.{IsNoTree, IsTried, Leads, TriesBytes, attempt_by, attempt_of, broken_by, passed_by, passed_fault}
use Rattle.zk_directory_state.specs.Evidence.{end_fault, proved, proved_by}
use Rattle.zk_directory_state.specs.Folders.{IsGiven}
use Rattle.zk_directory_state.specs.Histories.{AnswersUpto, AnswersWithout, Chooses, Folders, Follows, Holds, candidates, first_early, with_broken}
use Rattle.zk_directory_state.specs.Logs.{IsUnreadIn, IsUnreadSnapshot, logs_from}
use Rattle.zk_directory_state.specs.Names.{snapshot_name}
use Rattle.zk_directory_state.specs.declared.fault.HistoryFault.{HistoryFault}
use Rattle.zk_directory_state.specs.declared.fault.HistoryFault.TheVariants as faults
use Rattle.zk_directory_state.specs.declared.fault.PassedFault.{PassedFault}
use Rattle.zk_directory_state.specs.declared.fault.PassedFault.TheVariants as passed
use Rattle.zk_directory_state.specs.declared.history.Broken.{Broken}
use Rattle.zk_directory_state.specs.declared.history.Origin.{Origin}
use Rattle.zk_directory_state.specs.declared.history.Shown.{Shown}
use Rattle.zk_directory_state.specs.declared.restore_fault.DirectoryFault.{DirectoryFault}
use Rattle.zk_directory_state.specs.declared.restore_fault.RestoreFault.{RestoreFault}
use Rattle.zk_directory_state.specs.declared.restore_fault.RestoreFault.TheVariants as restore_faults
use Rattle.zk_directory_state.specs.declared.restored_directory.Restored.{Restored}
use Rattle.zk_directory_state.specs.declared.upto.Upto.{Upto}
use Rattle.zk_jute.specs.declared.fault.JuteFault.{JuteFault}
use Rattle.zk_replay.specs.declared.exact.Exact.{Exact}
use Rattle.zk_snapshot.specs.Faults.{Refused, fault_of}
use Rattle.zk_snapshot.specs.Reading.{all_of}
use Rattle.zk_snapshot.specs.declared.fault.SnapshotFault.{SnapshotFault}
use Rattle.zk_snapshot.specs.declared.fault.SnapshotFault.TheVariants as snapshot_faults
use Rattle.zk_snapshot.specs.declared.snapshot.Snapshot.{Snapshot}
use Rattle.zk_snapshot_command.specs.DirectoryOwners.{IsBase, IsStoredBase, base_of, reread_fault}

-- ---- the one that served

module _ (folders : Folders) (shown : Shown) (zxid : ℤ) (zxids : List ℤ) (broken : List Broken) where
  -- the snapshots after this one lead to the state
  abbrev Others : Type 0
  Others = (broken : List Broken) (early : _) → Chooses folders (Ok shown) zxids broken early → IsBase folders.snapshot_bytes (base_of shown.origin)

  passed_over : (early : _) (fault : Option PassedFault) → Others → Follows zxid broken early (Ok shown) (Chooses folders (Ok shown) zxids) (passed_by fault) → IsBase folders.snapshot_bytes (base_of shown.origin)
  passed_over early None others f = absurd (cc f)
  passed_over early (Some fault) others f = others (with_broken broken zxid fault) early f

  not_restored : (early : _) (failed : DirectoryFault) (logged : List ℤ) (fault : RestoreFault) → Others → Follows zxid broken early (Ok shown) (Chooses folders (Ok shown) zxids) (attempt_of failed zxid logged fault) → IsBase folders.snapshot_bytes (base_of shown.origin)
  not_restored early failed logged (restore_faults.Early exact) others f = others broken (first_early early zxid exact) f
  not_restored early failed logged restore_faults.Tree others f = others (with_broken broken zxid passed.Tree) early f
  not_restored early failed logged restore_faults.Access others f = others (with_broken broken zxid passed.Access) early f
  not_restored early failed logged fault others f = absurd (cc f)

  tried : (early : _) (exact : Exact) (logged : List ℤ) (result : Result Restored DirectoryFault) → Others → IsStoredBase folders.snapshot_bytes zxid → Follows zxid broken early (Ok shown) (Chooses folders (Ok shown) zxids) (attempt_by exact zxid logged result)
      → IsBase folders.snapshot_bytes (base_of shown.origin)
  tried early exact logged (Ok restored) others base f = subst (λ (origin : Option Origin). IsBase folders.snapshot_bytes (base_of origin)) (sym f.1) base
  tried early exact logged (Err failed) others base f = not_restored early failed logged failed.fault others f

  led_by : (early : _) (snapshot : Snapshot) (logged : List ℤ) (logs : List (Bor (List ℕ))) (attempt : _) → Others → IsStoredBase folders.snapshot_bytes zxid → (l : IsTried snapshot zxid folders.upto logged logs (Ok attempt) ⊎ IsNoTree snapshot zxid (Ok attempt))
      → Follows zxid broken early (Ok shown) (Chooses folders (Ok shown) zxids) (Ok attempt) → IsBase folders.snapshot_bytes (base_of shown.origin)
  led_by early snapshot logged logs attempt others base (inl t) f = tried early t.exact logged t.result others base (subst (λ x. Follows zxid broken early (Ok shown) (Chooses folders (Ok shown) zxids) x) t.answered f)
  led_by early snapshot logged logs attempt others base (inr n) f = others (with_broken broken zxid (broken_by n.fault)) early (subst (λ x. Follows zxid broken early (Ok shown) (Chooses folders (Ok shown) zxids) x) n.answered f)

  led : (early : _) (snapshot : Snapshot) (logged : List ℤ) (logs : List (Bor (List ℕ))) (answer : _) → Others → IsStoredBase folders.snapshot_bytes zxid → Leads snapshot zxid folders.upto logged logs answer → Follows zxid broken early (Ok shown) (Chooses folders (Ok shown) zxids) answer
      → IsBase folders.snapshot_bytes (base_of shown.origin)
  led early snapshot logged logs (Ok attempt) others base l f = led_by early snapshot logged logs attempt others base l f
  led early snapshot logged logs (Err fault) others base l f = absurd (cc f)

  of_bytes : (early : _) (bytes : List ℕ) (read : Result Snapshot JuteFault) (answer : _) → Others → IsGiven (folders.snapshot_bytes (snapshot_name zxid)) bytes → all_of bytes ≡ read → TriesBytes folders.log_bytes bytes read zxid folders.upto folders.logged answer
      → Follows zxid broken early (Ok shown) (Chooses folders (Ok shown) zxids) answer → IsBase folders.snapshot_bytes (base_of shown.origin)
  of_bytes early bytes (Ok snapshot) answer others given reads t f = led early snapshot (logs_from zxid folders.logged) t.logs answer others (record { bytes = bytes; snapshot = snapshot; given = given; reads = reads }) t.leads f
  of_bytes early bytes (Err field) answer others given reads t f = passed_over early (passed_fault (fault_of bytes field)) others (subst (λ x. Follows zxid broken early (Ok shown) (Chooses folders (Ok shown) zxids) x) t f)

without : (snapshot_bytes : List ℕ → Option (List ℕ)) (broken : List Broken) (shown : Shown) (restored : Result Restored HistoryFault) → AnswersWithout broken (Ok shown) restored → IsBase snapshot_bytes (base_of shown.origin)
without snapshot_bytes broken shown (Ok restored) a = subst (λ (origin : Option Origin). IsBase snapshot_bytes (base_of origin)) (sym a.1) tt
without snapshot_bytes broken shown (Err fault) a = absurd (cc a)

chosen : (folders : Folders) (shown : Shown) (zxids : List ℤ) (broken : List Broken) (early : _) → Chooses folders (Ok shown) zxids broken early → IsBase folders.snapshot_bytes (base_of shown.origin)
chosen folders shown [] broken early c = without folders.snapshot_bytes broken shown c.0 c.2
chosen folders shown (zxid ∷ zxids) broken early c = of_bytes folders shown zxid zxids broken early c.1.bytes (all_of c.1.bytes) c.0 (chosen folders shown zxids) c.1.given refl c.1.tries c.2

-- ---- the state that the files prove

proved_same : (shown other : Shown) (fault : Option HistoryFault) → Ok shown ≡ proved_by other fault → shown ≡ other
proved_same shown other None e = cc e
proved_same shown other (Some fault) e = absurd (cc e)

found : (folders : Folders) (upto : Upto) (zxids : List ℤ) (shown : Shown) (answer : Result Shown HistoryFault) → Chooses folders answer zxids [] None → Ok shown ≡ proved upto answer → IsBase folders.snapshot_bytes (base_of shown.origin)
found folders upto zxids shown (Ok other) c e =
    let same : shown ≡ other = proved_same shown other (end_fault upto other.restored other.restored.next) e in
    subst (λ (s : Shown). IsBase folders.snapshot_bytes (base_of s.origin)) (sym same) (chosen folders other zxids [] None c)
found folders upto zxids shown (Err fault) c e = absurd (cc e)

module _ (snapshots : Option (List (List ℕ))) (snapshot_bytes : List ℕ → Option (List ℕ)) (logs : Option (List (List ℕ))) (log_bytes : List ℕ → Option (List ℕ)) (upto : Upto) where
  answered : (held logged : List ℤ) (zxid : Result (Option ℤ) HistoryFault) (shown : Shown) → AnswersUpto snapshot_bytes log_bytes held logged upto zxid (Ok shown) → IsBase snapshot_bytes (base_of shown.origin)
  answered held logged (Err fault) shown a = absurd (cc a)
  answered held logged (Ok zxid) shown a = found (record { snapshot_bytes = snapshot_bytes; log_bytes = log_bytes; held = held; logged = logged; upto = zxid }) upto (candidates zxid held) shown a.0 a.1 a.2

  -- the snapshot that a state begins at was read
  pub base_read : (shown : Shown) → Holds snapshots snapshot_bytes logs log_bytes upto (Ok shown) → IsBase snapshot_bytes (base_of shown.origin)
  base_read shown h = answered h.held h.logged h.zxid shown h.answered

  -- what cannot be read again is no state
  pub unread_holds : (fault : HistoryFault) → IsUnreadIn snapshots snapshot_bytes logs log_bytes fault → Holds snapshots snapshot_bytes logs log_bytes upto (Err fault)
  unread_holds faults.Empty unread = absurd unread
  unread_holds fault unread = inl unread

-- ---- the second time

-- bytes that are known are the same
not_known : (known : Option (List ℕ)) (bytes again : List ℕ) → IsGiven known bytes → IsGiven known again → (again ≡ bytes → ⊥) → known ≡ None
not_known None bytes again given given_again never = refl
not_known (Some all) bytes again given given_again never = absurd (never (given_again ∙ sym given))

never_both : (read : Result Snapshot JuteFault) (snapshot : Snapshot) (field : JuteFault) → read ≡ Ok snapshot → read ≡ Err field → ⊥
never_both read snapshot field reads fails = cc (reads, fails)

refused : (snapshot_bytes : List ℕ → Option (List ℕ)) (zxid : ℤ) (bytes : List ℕ) (fault : SnapshotFault) → IsStoredBase snapshot_bytes zxid → IsGiven (snapshot_bytes (snapshot_name zxid)) bytes → (r : (fault ≡ snapshot_faults.NoMemory) ⊎ ((field : JuteFault) × (all_of bytes ≡ Err field) × (fault ≡ fault_of bytes field)))
    → (fault ≡ snapshot_faults.NoMemory → ⊥) → snapshot_bytes (snapshot_name zxid) ≡ None
refused snapshot_bytes zxid bytes fault base given (inl memory) never = absurd (never memory)
refused snapshot_bytes zxid bytes fault base given (inr r) never =
    not_known (snapshot_bytes (snapshot_name zxid)) base.bytes bytes base.given given (λ same. never_both (all_of bytes) base.snapshot r.0 (ap all_of same ∙ base.reads) r.1)

not_again : (snapshot_bytes : List ℕ → Option (List ℕ)) (zxid : ℤ) (bytes : List ℕ) (fault : SnapshotFault) → IsStoredBase snapshot_bytes zxid → IsGiven (snapshot_bytes (snapshot_name zxid)) bytes → Refused bytes (Err fault) (all_of bytes) → IsUnreadSnapshot snapshot_bytes (reread_fault zxid fault)
not_again snapshot_bytes zxid bytes snapshot_faults.NoMemory base given r = tt
not_again snapshot_bytes zxid bytes fault base given r = refused snapshot_bytes zxid bytes fault base given r (λ memory. cc memory)

pub reread : (snapshot_bytes : List ℕ → Option (List ℕ)) (zxid zxid' : ℤ) (bytes bytes' : List ℕ) (fault : SnapshotFault) (result : HistoryFault) → zxid' ≡ zxid → IsStoredBase snapshot_bytes zxid → IsGiven (snapshot_bytes (snapshot_name zxid')) bytes → bytes' ≡ bytes → Refused bytes' (Err fault) (all_of bytes')
    → result ≡ reread_fault zxid' fault → IsUnreadSnapshot snapshot_bytes result
reread snapshot_bytes zxid zxid' bytes bytes' fault result same base given again r is =
    let read : IsGiven (snapshot_bytes (snapshot_name zxid)) bytes' = subst (IsGiven (snapshot_bytes (snapshot_name zxid))) (sym again) (subst (λ (z : ℤ). IsGiven (snapshot_bytes (snapshot_name z)) bytes) same given) in
    subst (IsUnreadSnapshot snapshot_bytes) (sym (is ∙ ap (λ (z : ℤ). reread_fault z fault) same)) (not_again snapshot_bytes zxid bytes' fault base read r)
