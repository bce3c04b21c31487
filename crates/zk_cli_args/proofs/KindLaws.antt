-- The name of a command, and what commands of other names are not.
use Rattle.std.proofs.Common.{◌≡◌, Bool, true, false, ◌||◌, ℕ, List, [], ◌∷◌, Option, Some, None, refl, sym, ap, ◌∙◌, codes, arith, if◌then◌else◌}
use Rattle.std.proofs.lemmas.Slice.Eq.{bytes_eq-Decides}
use Rattle.std.specs.Str.{bytes_eq}
use Rattle.zk_cli_args.specs.Commands.{Names, NamesBy}
use Rattle.zk_cli_args.specs.Comparing.{CompareWords, compare_after, compare_of}
use Rattle.zk_cli_args.specs.Differing.{DiffWords, diff_after, diff_words}
use Rattle.zk_cli_args.specs.Folders.{NamesFolder, NamesFolderBy}
use Rattle.zk_cli_args.specs.Incidents.{HistoryWords, TopWords, history_after, history_of, top_after, top_of}
use Rattle.zk_cli_args.specs.Lines.{name_of}
use Rattle.zk_cli_args.specs.Restoring.{RestoreWords, restore_after, restore_words}
use Rattle.zk_cli_args.specs.Serving.{NamesServing}
use Rattle.zk_cli_args.specs.Sessions.{SessionWords, SessionsWords, session_after, session_words, sessions_after, sessions_of}
use Rattle.zk_cli_args.specs.Snapshots.{SnapshotWords, snapshot_after, snapshot_words}
use Rattle.zk_cli_args.specs.Verifying.{VerifyWords, verify_after, verify_of}
use Rattle.zk_cli_args.specs.declared.command.Order.{Order}
use Rattle.zk_cli_args.specs.declared.command.Order.TheVariants as orders
use Rattle.zk_cli_args.specs.declared.folders.FolderOrder.{FolderOrder}
use Rattle.zk_cli_args.specs.declared.folders.FolderOrder.TheVariants as folder_orders
use Rattle.zk_cli_args.specs.declared.serving.Serving.{Serving}
use Rattle.zk_cli_args.proofs.NamesLaws.{apart}

-- ---- the names of reports

named : {A : Type 0} (name word : List ℕ) (words found : Option A) (test : Bool) (given : A) → found ≡ None → bytes_eq name word ≡ test → (if test then words else found) ≡ Some given → name ≡ word
named name word words found true given none e f = (bytes_eq-Decides name word).0 e
named name word words found false given none e f = absurd (cc (sym none ∙ f))

pub history_name : (words : List (List ℕ)) (given : HistoryWords) → history_of words ≡ Some given → name_of words ≡ codes "history"
history_name [] given e = absurd (cc e)
history_name (program ∷ []) given e = absurd (cc e)
history_name (program ∷ name ∷ words) given e = named name (codes "history") (history_after words) None (bytes_eq name (codes "history")) given refl refl e

pub top_name : (words : List (List ℕ)) (given : TopWords) → top_of words ≡ Some given → name_of words ≡ codes "top"
top_name [] given e = absurd (cc e)
top_name (program ∷ []) given e = absurd (cc e)
top_name (program ∷ name ∷ words) given e = named name (codes "top") (top_after words) None (bytes_eq name (codes "top")) given refl refl e

pub sessions_name : (words : List (List ℕ)) (given : SessionsWords) → sessions_of words ≡ Some given → name_of words ≡ codes "sessions"
sessions_name [] given e = absurd (cc e)
sessions_name (program ∷ []) given e = absurd (cc e)
sessions_name (program ∷ name ∷ words) given e = named name (codes "sessions") (sessions_after words) None (bytes_eq name (codes "sessions")) given refl refl e

pub session_name : (words : List (List ℕ)) (given : SessionWords) → session_words words ≡ Some given → name_of words ≡ codes "session"
session_name [] given e = absurd (cc e)
session_name (program ∷ []) given e = absurd (cc e)
session_name (program ∷ name ∷ words) given e = named name (codes "session") (session_after words) None (bytes_eq name (codes "session")) given refl refl e

pub compare_name : (words : List (List ℕ)) (given : CompareWords) → compare_of words ≡ Some given → name_of words ≡ codes "compare"
compare_name [] given e = absurd (cc e)
compare_name (program ∷ []) given e = absurd (cc e)
compare_name (program ∷ name ∷ words) given e = named name (codes "compare") (compare_after words) None (bytes_eq name (codes "compare")) given refl refl e

pub verify_name : (words : List (List ℕ)) (given : VerifyWords) → verify_of words ≡ Some given → name_of words ≡ codes "verify"
verify_name [] given e = absurd (cc e)
verify_name (program ∷ []) given e = absurd (cc e)
verify_name (program ∷ name ∷ words) given e = named name (codes "verify") (verify_after words) None (bytes_eq name (codes "verify")) given refl refl e

pub diff_name : (words : List (List ℕ)) (given : DiffWords) → diff_words words ≡ Some given → name_of words ≡ codes "diff"
diff_name [] given e = absurd (cc e)
diff_name (program ∷ []) given e = absurd (cc e)
diff_name (program ∷ name ∷ words) given e = named name (codes "diff") (diff_after words) None (bytes_eq name (codes "diff")) given refl refl e

pub restore_name : (words : List (List ℕ)) (given : RestoreWords) → restore_words words ≡ Some given → name_of words ≡ codes "restore"
restore_name [] given e = absurd (cc e)
restore_name (program ∷ []) given e = absurd (cc e)
restore_name (program ∷ name ∷ words) given e = named name (codes "restore") (restore_after words) None (bytes_eq name (codes "restore")) given refl refl e

pub snapshot_name : (words : List (List ℕ)) (given : SnapshotWords) → snapshot_words words ≡ Some given → name_of words ≡ codes "snapshot"
snapshot_name [] given e = absurd (cc e)
snapshot_name (program ∷ []) given e = absurd (cc e)
snapshot_name (program ∷ name ∷ words) given e = named name (codes "snapshot") (snapshot_after words) None (bytes_eq name (codes "snapshot")) given refl refl e

-- ---- the names of jobs, directories and servers

abbrev is_job_name : List ℕ → Bool
is_job_name name = ((((bytes_eq name (codes "show") || bytes_eq name (codes "list")) || bytes_eq name (codes "asm")) || bytes_eq name (codes "mend")) || bytes_eq name (codes "debug")) || bytes_eq name (codes "run")

abbrev is_folder_name : List ℕ → Bool
is_folder_name name = (bytes_eq name (codes "files") || bytes_eq name (codes "list")) || bytes_eq name (codes "show")

abbrev pub is_known : List ℕ → Bool
is_known name = (is_job_name name || is_folder_name name) || bytes_eq name (codes "serve")

job_is_named : (name : List ℕ) (values : List (List ℕ)) (o : Order) (i : List ℕ) (s : Option (List ℕ)) (t : List ℕ) → NamesBy name values o i s t → is_known name ≡ true
job_is_named name values (orders.Show u) i s t p = ap is_known p.0
job_is_named name values orders.List i s t p = ap is_known p.0
job_is_named name values orders.Asm i s t p = ap is_known p.0
job_is_named name values orders.Mend i s t p = ap is_known p.0
job_is_named name values orders.Debug i None t p = absurd p
job_is_named name values orders.Debug i (Some s) t p = ap is_known p.0
job_is_named name values (orders.Session prompts) i s t p = ap is_known p.0
job_is_named name values orders.Run i s t p = ap is_known p.0

folder_is_named : (name : List ℕ) (values : List (List ℕ)) (logs : Option (List ℕ)) (o : FolderOrder) (f : List ℕ) → NamesFolderBy name values logs o f → (is_known name ≡ true) × (is_folder_name name ≡ true)
folder_is_named name values logs folder_orders.Files f p = (ap is_known p.0, ap is_folder_name p.0)
folder_is_named name values logs folder_orders.List f p = (ap is_known p.0, ap is_folder_name p.0)
folder_is_named name values logs (folder_orders.Show until) f p = (ap is_known p.1, ap is_folder_name p.1)

never : (test : Bool) → test ≡ true → test ≡ false → ⊥
never test p q = absurd (cc (sym p ∙ q))

pub no_known_job : (words : List (List ℕ)) (o : Order) (i : List ℕ) (s : Option (List ℕ)) (t name : List ℕ) → name_of words ≡ name → is_known name ≡ false → Names words o i s t → ⊥
no_known_job words o i s t name e unknown p =
    let same : p.name ≡ name = sym (ap name_of p.spelled) ∙ e in
    never (is_known p.name) (job_is_named p.name p.values o i s t p.named) (ap is_known same ∙ unknown)

pub no_known_folder : (words : List (List ℕ)) (o : FolderOrder) (f : List ℕ) (l : Option (List ℕ)) (name : List ℕ) → name_of words ≡ name → is_known name ≡ false → NamesFolder words o f l → ⊥
no_known_folder words o f l name e unknown p =
    let same : p.name ≡ name = sym (ap name_of p.spelled) ∙ e in
    never (is_known p.name) (folder_is_named p.name p.values l o f p.named).0 (ap is_known same ∙ unknown)

pub no_known_serving : (words : List (List ℕ)) (serving : Serving) (name : List ℕ) → name_of words ≡ name → is_known name ≡ false → NamesServing words serving → ⊥
no_known_serving words serving name e unknown p =
    let same : codes "serve" ≡ name = sym (ap name_of p.spelled) ∙ e in
    never (is_known (codes "serve")) refl (ap is_known same ∙ unknown)

pub no_debug_folder : (words : List (List ℕ)) (o : FolderOrder) (f : List ℕ) (l : Option (List ℕ)) → name_of words ≡ codes "debug" → NamesFolder words o f l → ⊥
no_debug_folder words o f l e p =
    let same : p.name ≡ codes "debug" = sym (ap name_of p.spelled) ∙ e in
    never (is_folder_name p.name) (folder_is_named p.name p.values l o f p.named).1 (ap is_folder_name same)

pub no_debug_serving : (words : List (List ℕ)) (serving : Serving) → name_of words ≡ codes "debug" → NamesServing words serving → ⊥
no_debug_serving words serving e p =
    let same : codes "serve" ≡ codes "debug" = sym (ap name_of p.spelled) ∙ e in
    apart (codes "debug") (codes "serve") 100 115 refl refl (omega arith) (sym same)
