-- What the words of `zk diff` name.
use Rattle.std.proofs.Common.{◌≡◌, ℕ, List, Option, Some, None, sym, subst, ◌∙◌}
use Rattle.zk_cli_args.specs.Differing.{DiffWords, IsDiff, NamesDiff, ReadsDiff, ReadsDiffWords, diff_words}
use Rattle.zk_cli_args.specs.Folders.{SpellsUntil}
use Rattle.zk_cli_args.specs.declared.difference.DiffJob.{DiffJob}
use Rattle.zk_cli_args.specs.declared.folders.Until.{Until}

same : (a b : DiffWords) → (let x : Option DiffWords = Some a in let y : Option DiffWords = Some b in x ≡ y) → a ≡ b
same a b e = cc

pub given_diff : (words : List (List ℕ)) (given : DiffWords) (read : Option DiffJob) → Some given ≡ diff_words words → ReadsDiffWords given read → ReadsDiff words read
given_diff words given (Some job) is r = record { given = given; parted = sym is; is = r }
given_diff words given None is r = λ job n. r job (subst (λ (g : DiffWords). IsDiff g job) (same n.given given (sym n.parted ∙ sym is)) n.is)

pub no_diff : (words : List (List ℕ)) → None ≡ diff_words words → ReadsDiff words None
no_diff words is = λ job n. none_some n.given (is ∙ n.parted)
  where
    none_some : (given : DiffWords) → (let x : Option DiffWords = None in let y : Option DiffWords = Some given in x ≡ y) → ⊥
    none_some given e = cc

pub no_from : (given : DiffWords) → ((until : Until) → ¬ SpellsUntil given.from until) → ReadsDiffWords given None
no_from given none = λ job n. none job.from n.from

pub no_to : (given : DiffWords) → ((until : Until) → ¬ SpellsUntil given.to until) → ReadsDiffWords given None
no_to given none = λ job n. none job.to n.to

pub whole_diff : (given : DiffWords) (job : DiffJob) → IsDiff given job → ReadsDiffWords given (Some job)
whole_diff given job is = is
