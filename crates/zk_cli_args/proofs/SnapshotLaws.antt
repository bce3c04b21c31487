-- What the words of `zk snapshot` name.
use Rattle.std.proofs.Common.{◌≡◌, ℕ, List, Option, Some, None, sym, subst, ◌∙◌}
use Rattle.zk_cli_args.specs.Folders.{SpellsUntil}
use Rattle.zk_cli_args.specs.Snapshots.{IsSnapshot, NamesSnapshot, ReadsSnapshot, ReadsSnapshotWords, SnapshotWords, snapshot_words}
use Rattle.zk_cli_args.specs.declared.folders.Until.{Until}
use Rattle.zk_cli_args.specs.declared.snapshot.SnapshotJob.{SnapshotJob}

same : (a b : SnapshotWords) → (let x : Option SnapshotWords = Some a in let y : Option SnapshotWords = Some b in x ≡ y) → a ≡ b
same a b e = cc

pub given_snapshot : (words : List (List ℕ)) (given : SnapshotWords) (read : Option SnapshotJob) → Some given ≡ snapshot_words words → ReadsSnapshotWords given read → ReadsSnapshot words read
given_snapshot words given (Some job) is r = record { given = given; parted = sym is; is = r }
given_snapshot words given None is r = λ job n. r job (subst (λ (g : SnapshotWords). IsSnapshot g job) (same n.given given (sym n.parted ∙ sym is)) n.is)

pub no_snapshot : (words : List (List ℕ)) → None ≡ snapshot_words words → ReadsSnapshot words None
no_snapshot words is = λ job n. none_some n.given (is ∙ n.parted)
  where
    none_some : (given : SnapshotWords) → (let x : Option SnapshotWords = None in let y : Option SnapshotWords = Some given in x ≡ y) → ⊥
    none_some given e = cc

pub no_at : (given : SnapshotWords) → ((until : Until) → ¬ SpellsUntil given.at until) → ReadsSnapshotWords given None
no_at given none = λ job n. none job.at n.at

pub whole_snapshot : (given : SnapshotWords) (job : SnapshotJob) → IsSnapshot given job → ReadsSnapshotWords given (Some job)
whole_snapshot given job is = is
