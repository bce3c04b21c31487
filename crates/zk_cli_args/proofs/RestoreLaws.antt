-- What the words of `zk restore` name.
use Rattle.std.proofs.Common.{◌≡◌, ℕ, List, Option, Some, None, sym, subst, ◌∙◌}
use Rattle.zk_cli_args.specs.Folders.{SpellsUntil}
use Rattle.zk_cli_args.specs.Restoring.{IsRestore, NamesRestore, ReadsRestore, ReadsRestoreWords, RestoreWords, restore_words}
use Rattle.zk_cli_args.specs.declared.folders.Until.{Until}
use Rattle.zk_cli_args.specs.declared.restoration.RestoreJob.{RestoreJob}

same : (a b : RestoreWords) → (let x : Option RestoreWords = Some a in let y : Option RestoreWords = Some b in x ≡ y) → a ≡ b
same a b e = cc

pub given_restore : (words : List (List ℕ)) (given : RestoreWords) (read : Option RestoreJob) → Some given ≡ restore_words words → ReadsRestoreWords given read → ReadsRestore words read
given_restore words given (Some job) is r = record { given = given; parted = sym is; is = r }
given_restore words given None is r = λ job n. r job (subst (λ (g : RestoreWords). IsRestore g job) (same n.given given (sym n.parted ∙ sym is)) n.is)

pub no_restore : (words : List (List ℕ)) → None ≡ restore_words words → ReadsRestore words None
no_restore words is = λ job n. none_some n.given (is ∙ n.parted)
  where
    none_some : (given : RestoreWords) → (let x : Option RestoreWords = None in let y : Option RestoreWords = Some given in x ≡ y) → ⊥
    none_some given e = cc

pub no_at : (given : RestoreWords) → ((until : Until) → ¬ SpellsUntil given.at until) → ReadsRestoreWords given None
no_at given none = λ job n. none job.at n.at

pub whole_restore : (given : RestoreWords) (job : RestoreJob) → IsRestore given job → ReadsRestoreWords given (Some job)
whole_restore given job is = is
